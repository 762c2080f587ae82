-- What lies where as a run opens.
use Rattle.std.proofs.Common.{◌≡◌, ℕ, zero, suc, ◌==◌, ◌<◌, ◌≤◌, true, false, List, [], ◌∷◌, Option, Some, None, refl, sym, ap, ◌∙◌, subst, length, arith}
use Rattle.std.specs.Prelude.{slice_index_or}
use Rattle.uc_tree.specs.Programs.{Site}
use Rattle.uc_tree.specs.declared.limits.TheConstants.{INPUT_BYTES}
use Rattle.uc_entry.specs.declared.entry.Options.{Options}
use Rattle.uc_entry.specs.Keyed.{find}
use Rattle.uc_acts.specs.Journal.{Journal, begin, held}
use Rattle.uc_acts.specs.Known.{has, object_count, task_count}
use Rattle.uc_acts.specs.Queues.{running}
use Rattle.uc_acts.specs.Sound.{spot}
use Rattle.uc_acts.specs.KernelRuns.{InRange, begun}
use Rattle.uc_acts.proofs.Moves.{spot_moves}
use Rattle.uc_acts.proofs.Others.{flip}
use Rattle.uc_kernel_core.specs.Mirrors.{Seen}
use Rattle.uc_kernel.specs.declared.rests.TaskAtRest.{TaskAtRest}
use Rattle.uc_kernel.specs.Numbered.{keys, or_else}
use Rattle.uc_kernel.specs.KernelState.{kept, stored, task_in, member_among}
use Rattle.uc_kernel.specs.Calls.{Opened}
use Rattle.uc_kernel.specs.AtRest.{Lies, IsKept, IsOut, IsFirst, is_ready}
use Rattle.uc_kernel.proofs.Hands.{no_both, some-same}
use Rattle.uc_kernel.proofs.Moving.{running_silent}
use Rattle.uc_kernel.proofs.Dispatching.{seen_of}

none_some : {A : Type 0} {x : A} {B : Type 0} → None ≡ Some x → B
none_some e = absurd (cc)

some_none : {A : Type 0} {x : A} → Some x ≡ None → ⊥
some_none e = cc

held_first : (opts : Options) → held 0 (begin opts ∷ []) ≡ 0 ∷ []
unfolding held
held_first opts = refl

none_runs : (p : ℕ) → running p [] ≡ []
unfolding running
none_runs p = refl

running_first : (opts : Options) (p : ℕ) → running p (begin opts ∷ []) ≡ []
running_first opts p = running_silent p [] (begin opts) (λ u. refl) (λ u. refl) ∙ none_runs p

ready_first : (opts : Options) → is_ready (spot 0 (begin opts ∷ [])) ≡ true
ready_first opts = ap is_ready (spot_moves [] (begin opts) 0 refl)

tasks_first : (opts : Options) → task_count (begin opts ∷ []) ≡ 1
unfolding task_count
tasks_first opts = refl

objects_first : (opts : Options) → object_count (begin opts ∷ []) ≡ 1
unfolding object_count
objects_first opts = refl

module _ {T M : Type 0} (opts : Options) (rest : TaskAtRest T M) (own : M) (items : rest.members.items ≡ (0, own) ∷ []) where
  abbrev tasks : List (Option (TaskAtRest T M))
  tasks = Some rest ∷ []

  abbrev loose : List (Option M)
  loose = None ∷ []

  abbrev j : Journal
  j = begin opts ∷ []

  hands : (t : ℕ) (r : TaskAtRest T M) → slice_index_or tasks t None ≡ Some r → keys r.members.items ≡ held t j
  hands zero r h = ap (λ x. keys x.members.items) (sym (some-same h)) ∙ ap keys items ∙ sym (held_first opts)
  hands (suc t) r h = none_some h

  room : (t : ℕ) (r : TaskAtRest T M) → slice_index_or tasks t None ≡ Some r → is_ready (spot t j) ≡ false → 1 ≤ r.members.spare
  room zero r h f = absurd (no_both (is_ready (spot 0 j)) (ready_first opts) f)
  room (suc t) r h f = none_some h

  loose_are : (o : ℕ) (m : M) → slice_index_or loose o None ≡ Some m → (t : ℕ) → has (held t j) o ≡ false
  loose_are zero m h t = none_some h
  loose_are (suc o) m h t = none_some h

  present : (o : ℕ) → o < object_count j → ((t : ℕ) → has (held t j) o ≡ false) → ⊥
  present zero lt free = no_both (has (held 0 j) 0) (ap (λ xs. has xs 0) (held_first opts)) (free 0)
  present (suc o) lt free = let c = objects_first opts in omega (arith, c, lt)

  no_one : (t : ℕ) → [] ≡ t ∷ [] → ⊥
  no_one t e = cc

  there : (t : ℕ) → t < length tasks → slice_index_or tasks t None ≡ None → IsOut t j
  there zero lt h = absurd (some_none h)
  there (suc t) lt h = absurd (omega arith)

  lies_first : Lies (begin opts ∷ []) (Some rest ∷ []) (None ∷ [])
  lies_first = record {
    hands = hands;
    room = room;
    loose_are = loose_are;
    present = λ o lt gone free h. present o lt free;
    tasks_are = sym (tasks_first opts);
    objects_are = sym (objects_first opts);
    out = λ p t h. absurd (no_one t (sym (running_first opts p) ∙ h));
    there = there;
  }

module _ {T M : Type 0} (sites : List Site) (opts : Options) (input : List ℕ) (first : T) (own : M) (range : InRange opts) (small : length input ≤ INPUT_BYTES) (s : Seen) (s_is : s ≡ record { journal = begin opts ∷ []; sites = sites; opts = opts; input = input }) (tasks : List (Option (TaskAtRest T M))) (is_first : IsFirst first own tasks) (loose : List (Option M)) (loose_is : loose ≡ None ∷ []) where
  pub kept_first : IsKept s tasks loose
  kept_first =
      subst (λ x. IsKept x tasks loose) (sym s_is) (subst (λ l. IsKept (seen_of (begin opts ∷ []) sites opts input) l loose) (sym is_first.is) (subst (λ l. IsKept (seen_of (begin opts ∷ []) sites opts input) (Some is_first.rest ∷ []) l) (sym loose_is) (record {
        runs = begun;
        range = range;
        small = small;
        lies = λ g. lies_first opts is_first.rest own is_first.items;
      })))

  no_value : (t : ℕ) → (t == 0) ≡ false → task_in (slice_index_or (Some is_first.rest ∷ []) t None) ≡ None
  no_value zero h = cc
  no_value (suc t) h = refl

  abbrev first_loose : List (Option M)
  first_loose = None ∷ []

  no_loose : (o : ℕ) → slice_index_or first_loose o None ≡ None
  no_loose zero = refl
  no_loose (suc o) = refl

  members_at : (o : ℕ) → or_else (slice_index_or first_loose o None) (member_among o (Some is_first.rest ∷ [])) ≡ or_else (find o ((0, own) ∷ [])) None
  members_at o = ap (λ x. or_else x (member_among o (Some is_first.rest ∷ []))) (no_loose o) ∙ ap (λ l. or_else (find o l) None) is_first.items

  at_start : Opened sites opts input first own (kept (stored (seen_of (begin opts ∷ []) sites opts input) false (Some is_first.rest ∷ []) (None ∷ [])))
  at_start = record {
    journal = refl;
    sites_are = refl;
    opts_are = refl;
    input_is = refl;
    wanted = refl;
    value = ap (λ x. Some x) is_first.task;
    members = members_at 0;
    no_value = no_value;
    no_members = λ o h. members_at o ∙ none_at o h;
  }
    where
      none_at : (o : ℕ) → (o == 0) ≡ false → or_else (find o ((0, own) ∷ [])) None ≡ None
      none_at o h = let f = flip o 0 h in rw f refl

  pub opened : Opened sites opts input first own (kept (stored s false tasks loose))
  opened =
      subst (λ x. Opened sites opts input first own (kept (stored x false tasks loose))) (sym s_is) (subst (λ l. Opened sites opts input first own (kept (stored (seen_of (begin opts ∷ []) sites opts input) false l loose))) (sym is_first.is) (subst (λ l. Opened sites opts input first own (kept (stored (seen_of (begin opts ∷ []) sites opts input) false (Some is_first.rest ∷ []) l))) (sym loose_is) at_start))
