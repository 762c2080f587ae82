-- What is put to rest as a run ends.
use Rattle.std.proofs.Common.{◌≡◌, ℕ, ◌==◌, ◌<◌, Bool, true, false, List, ◌++◌, Option, Some, None, refl, sym, ap, ◌∙◌, subst, length, get_or-set_same, get_or-set_other, length-set}
use Rattle.std.specs.Prelude.{slice_index_or, slice_set, if◌then◌else◌}
use Rattle.std.proofs.lemmas.Bool.{eqb-true}
use Rattle.uc_entry.specs.declared.entry.Entry.{Entry}
use Rattle.uc_entry.specs.declared.entry.EntryKind.{EntryKind}
use Rattle.uc_entry.specs.declared.entry.EntryKind.TheVariants as kind
use Rattle.uc_entry.specs.Listed.{Listed}
use Rattle.uc_entry.specs.Keyed.{find}
use Rattle.uc_acts.specs.Journal.{Journal, held, is_over}
use Rattle.uc_acts.specs.Known.{has, is_gone_by, takes_object, takes_out, spawns}
use Rattle.uc_acts.specs.Sound.{Sound}
use Rattle.uc_kernel_core.specs.Mirrors.{Seen}
use Rattle.uc_kernel.specs.declared.rests.TaskAtRest.{TaskAtRest}
use Rattle.uc_kernel.specs.Numbered.{keys, or_else, without}
use Rattle.uc_kernel.specs.KernelState.{Kept, kept, stored, put_back, task_in, member_in, member_among}
use Rattle.uc_kernel.specs.Calls.{Ends}
use Rattle.uc_kernel.specs.AtRest.{Lies, earlier}
use Rattle.uc_kernel.proofs.Hands.{no_both, find_some}
use Rattle.uc_kernel.proofs.Places.{among_only, among_same}
use Rattle.uc_kernel.proofs.Lying.{loose_none, others_none, nowhere_else}
use Rattle.uc_kernel.proofs.Stages.{differ, find_out, find_kept}

-- an act of task t from the journal j ends the run; the first entry alone may destroy an object
module _ {T M : Type 0} (s : Seen) (t : ℕ) (j : Journal) (a : List Entry) (after : s.journal ≡ j ++ a) (over : is_over s.journal ≡ true) (sound : Sound j) (items : List (ℕ × M)) (hand_is : keys items ≡ held t j) (tasks : List (Option (TaskAtRest T M))) (loose : List (Option M)) (lies : Lies j tasks loose) (mine : slice_index_or tasks t None ≡ None) (known : t < length tasks) (born : (u : ℕ) → spawns a u ≡ false) (first : Entry) (takes : (k : ℕ) → takes_out a k ≡ takes_object first.kind first k) (held_it : (k : ℕ) → takes_object first.kind first k ≡ true → has (held t j) k ≡ true) (value : T) (members' : Listed (ℕ × M)) (dropped : members'.items ≡ (if is_gone_by first.kind then without first.object items else items)) (wanted : Bool) (child : Option T) where
  abbrev rest : TaskAtRest T M
  rest = record { task = value; members = members' }

  abbrev tasks3 : List (Option (TaskAtRest T M))
  tasks3 = slice_set tasks t (Some (record { task = value; members = members' }))

  abbrev back : Kept T M
  back = put_back a t value items child (kept (stored (earlier j s) wanted tasks loose))

  at_t : slice_index_or tasks3 t None ≡ Some rest
  at_t = get_or-set_same tasks t (Some rest) None known

  values : (u : ℕ) (c : Bool) → (u == t) ≡ c → task_in (slice_index_or tasks3 u None) ≡ back.values u
  values u true e =
      let same = eqb-true u t e in
      ap (λ v. task_in (slice_index_or tasks3 v None)) same ∙ ap task_in at_t ∙ (let f = e in rw f refl)
  values u false e =
      let b = born u in
      ap task_in (get_or-set_other tasks t u (Some rest) None (differ u t e)) ∙ (let f = e in rw (f, b) refl)

  -- where an object is not destroyed, its members are found as they were brought
  found_same : (k : ℕ) → takes_object first.kind first k ≡ false → find k members'.items ≡ find k items
  found_same k h = ap (find k) dropped ∙ by (is_gone_by first.kind) refl
    where
      gone_other : (x : EntryKind) → is_gone_by x ≡ true → takes_object x first k ≡ false → (k == first.object) ≡ false
      gone_other kind.Gone g h = h
      gone_other x g h = cc

      by : (b : Bool) → is_gone_by first.kind ≡ b → find k (if b then without first.object items else items) ≡ find k items
      by true g = find_kept first.object k items (gone_other first.kind g h)
      by false g = refl

  gone_found : (k : ℕ) → takes_object first.kind first k ≡ true → find k members'.items ≡ None
  gone_found k h = ap (find k) dropped ∙ by (is_gone_by first.kind) refl
    where
      gone_is : (x : EntryKind) → takes_object x first k ≡ true → (is_gone_by x ≡ true) × ((k == first.object) ≡ true)
      gone_is kind.Gone h = (refl, h)
      gone_is x h = cc

      by : (b : Bool) → is_gone_by first.kind ≡ b → find k (if b then without first.object items else items) ≡ None
      by true g = ap (λ v. find v (without first.object items)) (eqb-true k first.object (gone_is first.kind h).1) ∙ find_out first.object items
      by false g = absurd (no_both (is_gone_by first.kind) (gone_is first.kind h).0 g)

  holds : (k : ℕ) (y : M) → find k items ≡ Some y → has (held t j) k ≡ true
  holds k y f = ap (λ ks. has ks k) (sym hand_is) ∙ find_some k y items f

  no_rest : (k : ℕ) → has (held t j) k ≡ true → or_else (slice_index_or loose k None) (member_among k tasks) ≡ None
  no_rest k h =
      ap (λ y. or_else y (member_among k tasks)) (loose_none j tasks loose lies.loose_are t k h) ∙ nowhere_else j tasks loose sound lies.hands t k h mine

  plain_members : (k : ℕ) (y : Option M) → find k items ≡ y → takes_object first.kind first k ≡ false → or_else (slice_index_or loose k None) (member_among k tasks3) ≡ or_else y (or_else (slice_index_or loose k None) (member_among k tasks))
  plain_members k (Some y) f n =
      let h = holds k y f in
      let long : t < length tasks3 = subst (λ m. t < m) (sym (length-set tasks t (Some rest))) known in
      ap (λ z. or_else z (member_among k tasks3)) (loose_none j tasks loose lies.loose_are t k h) ∙ among_only k t y tasks3 long (ap (member_in k) at_t ∙ found_same k n ∙ f) (λ u d. ap (member_in k) (get_or-set_other tasks t u (Some rest) None d) ∙ others_none j tasks loose sound lies.hands t k h u d)
  plain_members k None f n =
      ap (or_else (slice_index_or loose k None)) (among_same k t (Some rest) tasks (found_same k n ∙ f ∙ ap (member_in k) (sym mine)))

  members : (k : ℕ) (c : Bool) → takes_object first.kind first k ≡ c → or_else (slice_index_or loose k None) (member_among k tasks3) ≡ (if takes_out a k then None else or_else (find k items) (or_else (slice_index_or loose k None) (member_among k tasks)))
  members k true e =
      ap (or_else (slice_index_or loose k None)) (among_same k t (Some rest) tasks (gone_found k e ∙ ap (member_in k) (sym mine))) ∙ no_rest k (held_it k e) ∙ ap (λ c. if c then None else or_else (find k items) (or_else (slice_index_or loose k None) (member_among k tasks))) (sym e ∙ sym (takes k))
  members k false e =
      plain_members k (find k items) refl e ∙ ap (λ c. if c then None else or_else (find k items) (or_else (slice_index_or loose k None) (member_among k tasks))) (sym e ∙ sym (takes k))

  pub ended : Ends (put_back a t value items child (kept (stored (earlier j s) wanted tasks loose))) (kept (stored s wanted (slice_set tasks t (Some (record { task = value; members = members' }))) loose))
  ended = record {
    over = ap is_over (sym after) ∙ over;
    rest = record {
      journal = after;
      sites = refl;
      opts = refl;
      input = refl;
      abandoned = refl;
      values = λ u. values u (u == t) refl;
      members = λ k. members k (takes_object first.kind first k) refl;
    };
  }
