-- Entries that leave every door alone.
use Rattle.std.proofs.Common.{◌≡◌, ℕ, ◌==◌, Bool, true, false, not, List, [], ◌∷◌, ◌++◌, Option, None, refl, ap, ◌∙◌, append-nil}
use Rattle.std.specs.Option.{option_to_list}
use Rattle.std.specs.List.{filter}
use Rattle.uc_entry.specs.declared.entry.Entry.{Entry}
use Rattle.uc_entry.specs.declared.entry.EntryKind.{EntryKind}
use Rattle.uc_entry.specs.declared.entry.EntryKind.TheVariants as kind
use Rattle.uc_acts.specs.Journal.{Journal, inside, lets_in, moves}
use Rattle.uc_acts.specs.Queues.{waiting, stacked, calls, takes, stacks, admits}
use Rattle.uc_acts.specs.Doors.{open_at, opens, shuts}
use Rattle.uc_acts.proofs.OpenLemmas.{filter_true}
use Rattle.uc_acts.proofs.Seats.{inside_other, inside_same, open_other, open_same, stacked_other, stacked_same, waiting_other, waiting_same}

abbrev pub is_silent : EntryKind → Bool
is_silent kind.Begin = false
is_silent kind.Make = false
is_silent kind.Made = false
is_silent kind.Spawn = false
is_silent kind.Call = false
is_silent kind.Leave = false
is_silent kind.Admit = false
is_silent kind.Push = false
is_silent kind.Accept = false
is_silent kind.Wait = false
is_silent kind.SignalBlock = false
is_silent kind.End = false
is_silent kind.Gone = false
is_silent k = true

-- what an entry of kind k does to the lists of a door: nothing
pub record Hush (k : EntryKind) (e : Entry) : Type 0 where
  pub lets_in : lets_in k e ≡ None
  pub moves : (t : ℕ) → moves k e t ≡ false
  pub calls : calls k e ≡ None
  pub takes : (t : ℕ) → takes k e t ≡ false
  pub opens : opens k e ≡ None
  pub shuts : shuts k e ≡ false
  pub stacks : stacks k e ≡ None
  pub admits : (t : ℕ) → admits k e t ≡ false

pub hush : (k : EntryKind) (e : Entry) → is_silent k ≡ true → Hush k e
hush kind.Begin e h = cc
hush kind.Make e h = cc
hush kind.Made e h = cc
hush kind.Spawn e h = cc
hush kind.Call e h = cc
hush kind.Leave e h = cc
hush kind.Admit e h = cc
hush kind.Push e h = cc
hush kind.Accept e h = cc
hush kind.Wait e h = cc
hush kind.SignalBlock e h = cc
hush kind.End e h = cc
hush kind.Gone e h = cc
hush k e h = record {
  lets_in = refl;
  moves = λ t. refl;
  calls = refl;
  takes = λ t. refl;
  opens = refl;
  shuts = refl;
  stacks = refl;
  admits = λ t. refl;
}

same_with : {A : Type 0} (p : A → Bool) (xs : List A) (o : Option A) → ((a : A) → p a ≡ false) → o ≡ None → filter (λ a. not (p a)) xs ++ option_to_list o ≡ xs
same_with p xs o h n =
    ap (λ o. filter (λ a. not (p a)) xs ++ option_to_list o) n ∙ append-nil _ ∙ filter_true _ xs (λ a. ap not (h a))

-- a door whose lists are the same
pub record SameDoor (o : ℕ) (i j : Journal) : Type 0 where
  pub inside : inside o i ≡ inside o j
  pub waiting : waiting o i ≡ waiting o j
  pub opened : open_at o i ≡ open_at o j
  pub stacked : stacked o i ≡ stacked o j

pub door_other : (o : ℕ) (j : Journal) (e : Entry) → (e.object == o) ≡ false → SameDoor o (j ++ e ∷ []) j
door_other o j e h = record {
  inside = inside_other o j e h;
  waiting = waiting_other o j e h;
  opened = open_other o j e h;
  stacked = stacked_other o j e h;
}

door_hushed : (o : ℕ) (j : Journal) (e : Entry) → Hush e.kind e → (b : Bool) → (e.object == o) ≡ b → SameDoor o (j ++ e ∷ []) j
door_hushed o j e h false g = door_other o j e g
door_hushed o j e h true g = record {
  inside = inside_same o j e g ∙ same_with (moves e.kind e) (inside o j) (lets_in e.kind e) h.moves h.lets_in;
  waiting = waiting_same o j e g ∙ same_with (λ w. takes e.kind e w.0) (waiting o j) (calls e.kind e) (λ w. h.takes w.0) h.calls;
  opened = open_same o j e g ∙ same_with (λ a. shuts e.kind e) (open_at o j) (opens e.kind e) (λ a. h.shuts) h.opens;
  stacked = stacked_same o j e g ∙ ap (λ s. option_to_list s ++ filter (λ t. not (admits e.kind e t)) (stacked o j)) h.stacks ∙ filter_true _ (stacked o j) (λ t. ap not (h.admits t));
}

pub door_silent : (o : ℕ) (j : Journal) (e : Entry) → is_silent e.kind ≡ true → SameDoor o (j ++ e ∷ []) j
door_silent o j e h = door_hushed o j e (hush e.kind e h) (e.object == o) refl
