-- Whoever owns an object is a task, with one entry more.
use Rattle.std.proofs.Common.{◌≡◌, ℕ, ◌==◌, ◌<◌, Bool, true, false, List, [], ◌∷◌, ◌++◌, Some, None, refl, sym, ap, ◌∙◌, arith, inl, inr, ⊎_elim}
use Rattle.std.specs.Prelude.{◌⊎◌}
use Rattle.uc_entry.specs.declared.entry.Entry.{Entry}
use Rattle.uc_entry.specs.declared.entry.EntryKind.{EntryKind}
use Rattle.uc_entry.specs.declared.entry.EntryKind.TheVariants as kind
use Rattle.uc_acts.specs.Journal.{Journal, entries_at}
use Rattle.uc_acts.specs.Known.{task_count, is_spawn, owner, owned}
use Rattle.uc_acts.specs.Open.{still_open}
use Rattle.uc_acts.proofs.Moves.{more_tasks}
use Rattle.uc_acts.proofs.OpenLemmas.{still_open_silent, still_open_begins}
use Rattle.uc_acts.proofs.Seats.{at_push, at_other}
use Rattle.uc_acts.proofs.SoundLemmas.{some_task}

pub no_owner : (o t : ℕ) → owner o [] ≡ t ∷ [] → ⊥
unfolding owner entries_at
no_owner o t h = cc

owner_elsewhere : (o : ℕ) (j : Journal) (e : Entry) → (e.object == o) ≡ false → owner o (j ++ e ∷ []) ≡ owner o j
unfolding owner
owner_elsewhere o j e g = ap (still_open (λ e. owned e.kind e) (λ e t. false)) (at_other o j e g)

owner_silent : (o : ℕ) (j : Journal) (e : Entry) → (e.object == o) ≡ true → owned e.kind e ≡ None → owner o (j ++ e ∷ []) ≡ owner o j
unfolding owner
owner_silent o j e g n =
    ap (still_open (λ e. owned e.kind e) (λ e t. false)) (at_push o j e true g) ∙ still_open_silent (λ e. owned e.kind e) (λ e t. false) (entries_at o j) e n (λ a. refl)

pub owner_more : (o : ℕ) (j : Journal) (e : Entry) (t : ℕ) → (e.object == o) ≡ true → owned e.kind e ≡ Some t → owner o (j ++ e ∷ []) ≡ owner o j ++ t ∷ []
unfolding owner
owner_more o j e t g n =
    ap (still_open (λ e. owned e.kind e) (λ e t. false)) (at_push o j e true g) ∙ still_open_begins (λ e. owned e.kind e) (λ e t. false) (entries_at o j) e t n (λ a. refl)

owned_by : (k : EntryKind) (e : Entry) → is_spawn k ≡ false → (owned k e ≡ None) ⊎ (owned k e ≡ Some 0)
owned_by kind.Begin e h = inr refl
owned_by kind.Spawn e h = cc
owned_by k e h = inl refl

last_one : (xs : List ℕ) (u t : ℕ) → xs ++ u ∷ [] ≡ t ∷ [] → u ≡ t
last_one [] u t h = cc
last_one (x ∷ []) u t h = cc
last_one (x ∷ y ∷ xs) u t h = cc

pub owner_made : (j : Journal) (e : Entry) → is_spawn e.kind ≡ false → ((o t : ℕ) → owner o j ≡ t ∷ [] → t < task_count j) → (o t : ℕ) → owner o (j ++ e ∷ []) ≡ t ∷ [] → t < task_count (j ++ e ∷ [])
owner_made j e s k o t h = by (e.object == o) refl
  where
    by : (b : Bool) → (e.object == o) ≡ b → t < task_count (j ++ e ∷ [])
    by false g = more_tasks j e t (k o t (sym (owner_elsewhere o j e g) ∙ h))
    by true g =
        ⊎_elim (λ n. more_tasks j e t (k o t (sym (owner_silent o j e g n) ∙ h))) (λ n. let some = some_task (j ++ e ∷ []) in let first : 0 ≡ t = last_one (owner o j) 0 t (sym (owner_more o j e 0 g n) ∙ h) in omega arith) (owned_by e.kind e s)
