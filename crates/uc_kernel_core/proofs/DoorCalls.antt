-- The door of an object after a call of the part, by what becomes of it.
use Rattle.std.proofs.Common.{◌≡◌, ◌≢◌, ℕ, pos, ◌==◌, ◌<◌, Bool, true, false, not, cond, List, [], ◌∷◌, ◌++◌, Some, None, map, refl, sym, ap, ◌∙◌, subst, append-nil, append_assoc}
use Rattle.std.specs.List.{filter, AllByRecursion}
use Rattle.std.proofs.lemmas.Bool.{eqb-true}
use Rattle.std.proofs.lemmas.List.Elements.{filter-append}
use Rattle.uc_tree.specs.Programs.{Site}
use Rattle.uc_entry.specs.declared.entry.Entry.{Entry}
use Rattle.uc_entry.specs.declared.entry.EntryKind.TheVariants as kind
use Rattle.uc_acts.specs.Journal.{Journal, Cost, asking, inside}
use Rattle.uc_acts.specs.Doors.{OnStack, open_at, stack_at, taken_off, last_call, last_called}
use Rattle.uc_acts.specs.Acts.{admit, push, called}
use Rattle.uc_acts.specs.Stations.{Waits, Stacked, times, tasks_at}
use Rattle.uc_acts.specs.Sound.{At, Sound, Stood, spot, here}
use Rattle.uc_acts.proofs.SoundLemmas.{self_test, all_kept_nil}
use Rattle.uc_acts.proofs.Moves.{inside_now, first_at}
use Rattle.uc_acts.proofs.Room.{in_none}
use Rattle.uc_acts.proofs.Stood.{last_same, stands_same, flip}
use Rattle.uc_links.specs.Lists.{without, member_limit}
use Rattle.uc_mutex.specs.Doors.{Door, unmarked, marked, behind, let_in, on_top, off_top, rest_of, answer, after_call}
use Rattle.uc_kernel_core.specs.DoorLaws.{IsDoor, admitted, pair, met_by}
use Rattle.uc_kernel_core.specs.CallLaws.{told_call}
use Rattle.uc_kernel_core.proofs.DoorLemmas.{call, admit_one, meets, push_one}
use Rattle.uc_kernel_core.proofs.Nexts.{door_parts, nobody_out, first_out, waits_none, once}
use Rattle.uc_kernel_core.proofs.Calling.{Meets, Outcome, waits, comes, taken, pushed, outcome}

-- the last of a list is taken out, and was not in it before
last_out : (t m : ℕ) (ws : List (ℕ × ℕ)) → AllByRecursion (λ w. w.0 ≢ t) ws → without t (ws ++ (t, m) ∷ []) ≡ ws
last_out t m ws h =
    let self = self_test t in
    let one : filter (λ e. not (e.0 == t)) ((t, m) ∷ []) ≡ [] = ap (λ b. cond (not b) ((t, m) ∷ []) []) self in
    filter-append (λ e. not (e.0 == t)) ws ((t, m) ∷ []) ∙ ap (λ l. filter (λ e. not (e.0 == t)) ws ++ l) one ∙ append-nil _ ∙ nobody_out t ws h

other_kept : (u t m : ℕ) (ws : List (ℕ × ℕ)) → (t == u) ≡ false → AllByRecursion (λ w. w.0 ≢ u) ws → without u (ws ++ (t, m) ∷ []) ≡ ws ++ (t, m) ∷ []
other_kept u t m ws n h =
    let one : filter (λ e. not (e.0 == u)) ((t, m) ∷ []) ≡ (t, m) ∷ [] = ap (λ b. cond (not b) ((t, m) ∷ []) []) n in
    filter-append (λ e. not (e.0 == u)) ws ((t, m) ∷ []) ∙ ap (λ l. filter (λ e. not (e.0 == u)) ws ++ l) one ∙ ap (λ l. l ++ (t, m) ∷ []) (nobody_out u ws h)

other_test : (b : Bool) → (b ≡ true → ⊥) → b ≡ false
other_test true k = absurd (k refl)
other_test false k = refl

pub pairs_task : (t : ℕ) (ss : List OnStack) → AllByRecursion (λ s. s.0 ≢ t) (map pair ss) → taken_off t ss ≡ ss
pairs_task t [] h = refl
pairs_task t (s ∷ ss) h =
    ap (λ b. cond (not b) (s ∷ taken_off t ss) (taken_off t ss)) (other_test (s.task == t) (λ g. h.0 (eqb-true s.task t g))) ∙ ap (λ l. s ∷ l) (pairs_task t ss h.1)

firsts : (ss : List OnStack) → map (λ s. s.0) (map pair ss) ≡ map (λ s. s.task) ss
firsts [] = refl
firsts (s ∷ ss) = ap (λ l. s.task ∷ l) (firsts ss)

-- task t on p calls member m of o; it waits nowhere, and is on no stack
module _ (sites : List Site) (o : ℕ) (j : Journal) (d : Door) (at : IsDoor sites o j d) (s : Sound j) (st : Stood sites j) (p t : ℕ) (k : Cost) (m : ℕ) (no_caller : AllByRecursion (λ w. w.0 ≢ t) d.waiting) (no_stacked : AllByRecursion (λ x. x.0 ≢ t) d.stacked) where
  abbrev the_call : Entry
  the_call = asking kind.Call p t k o (pos m) (pos 0)

  abbrev after : Journal
  after = j ++ the_call ∷ []

  pub door_waits : IsDoor sites o after (behind t m d)
  door_waits = call sites o j d p t k m at

  inside_after : inside o after ≡ inside o j
  inside_after = inside_now j the_call ∙ all_kept_nil (inside o j)

  last_is : last_call o after t ≡ Some m
  last_is =
      let self = self_test t in
      let now : last_called (last_call o j) kind.Call the_call t ≡ Some m = simp self in
      last_same o j the_call t (self_test o) ∙ now

  -- freely
  pub door_free : inside o j ≡ [] → IsDoor sites o (after ++ admit p t o 0 0 ∷ []) (let_in t d)
  door_free empty =
      subst (IsDoor sites o (after ++ admit p t o 0 0 ∷ [])) (door_parts (Some t) (Some t) (without t (d.waiting ++ (t, m) ∷ [])) d.waiting (filter (λ s. not (s.0 == t)) d.stacked) d.stacked None None refl (last_out t m d.waiting no_caller) (nobody_out t d.stacked no_stacked) refl) (admit_one sites o after (behind t m d) p t 0 0 false refl (inside_after ∙ empty) door_waits)

  -- at an open accept
  module _ (u c : ℕ) (w : Meets sites o m c j u) where
    abbrev acceptor : OnStack
    acceptor = record { task = u; offers = w.offers; clause = 0; met = None; failed = false }

    stands : stack_at sites o after ≡ acceptor ∷ w.below
    stands = stands_same sites o j the_call (self_test o) ∙ w.top

    pub stacked : d.stacked ≡ (u, unmarked) ∷ map pair w.below
    stacked = at.stacked ∙ ap (map pair) w.top

    none_on : AllByRecursion (λ x. x.0 ≢ t) ((u, unmarked) ∷ map pair w.below)
    none_on = subst (AllByRecursion (λ s. s.0 ≢ t)) stacked no_stacked

    taken_now : taken_off t (stack_at sites o after) ≡ acceptor ∷ w.below
    taken_now = ap (taken_off t) stands ∙ pairs_task t (acceptor ∷ w.below) none_on

    pub door_taken : IsDoor sites o (after ++ admit p t o 1 0 ∷ []) (let_in t (on_top (u, marked c t) (off_top d)))
    door_taken =
        let top : met_by t (Some c) (filter (λ s. not (s.0 == t)) d.stacked) ≡ (u, marked c t) ∷ rest_of d.stacked = ap (met_by t (Some c)) (nobody_out t d.stacked no_stacked ∙ stacked) ∙ ap (λ l. (u, marked c t) ∷ rest_of l) (sym stacked) in
        subst (IsDoor sites o (after ++ admit p t o 1 0 ∷ [])) (ap (λ n. admitted t (Some n) (behind t m d)) w.clause ∙ door_parts (Some t) (Some t) (without t (d.waiting ++ (t, m) ∷ [])) d.waiting (met_by t (Some c) (filter (λ s. not (s.0 == t)) d.stacked)) ((u, marked c t) ∷ rest_of d.stacked) None None refl (last_out t m d.waiting no_caller) top refl) (meets sites o after (behind t m d) p t 0 m acceptor w.below last_is taken_now (inside_after ∙ w.empty) door_waits)

    -- the caller of a destructor
    pub acceptor_stacked : spot u j ≡ At (Stacked o)
    acceptor_stacked = first_at j s (Stacked o) u (map (λ s. s.task) w.below) (sym (st.tasks o) ∙ ap (map (λ s. s.task)) w.top)

    acceptor_other : (u == t) ≡ false
    acceptor_other = other_test (u == t) (λ g. none_on.0 (eqb-true u t g))

    not_waiting : AllByRecursion (λ x. x.0 ≢ u) d.waiting
    not_waiting = waits_none sites o j d at s st u (ap (here (Waits o)) acceptor_stacked)

    not_below : AllByRecursion (λ s. s.0 ≢ u) (map pair w.below)
    not_below =
        let tops : tasks_at (Stacked o) j ≡ u ∷ map (λ s. s.task) w.below = sym (st.tasks o) ∙ ap (map (λ s. s.task)) w.top in
        in_none (λ s. s.0) u (map pair w.below) (ap (times u) (firsts w.below) ∙ once sites o j d at s st u (map (λ s. s.task) w.below) (Stacked o) acceptor_stacked (ap (times u) (sym tops) ∙ s.seats u (Stacked o)))

    pub kept_waiting : without u (d.waiting ++ (t, m) ∷ []) ≡ d.waiting ++ (t, m) ∷ []
    kept_waiting = other_kept u t m d.waiting (flip u t false acceptor_other) not_waiting

    pub door_between : IsDoor sites o (after ++ admit p u o 3 c ∷ []) (admitted u None (behind t m d))
    door_between = admit_one sites o after (behind t m d) p u 3 c false refl (inside_after ∙ w.empty) door_waits

    pub door_pushed : IsDoor sites o ((after ++ admit p u o 3 c ∷ []) ++ push p t o ∷ []) (let_in u (on_top (t, unmarked) (off_top d)))
    door_pushed =
        let middle = after ++ admit p u o 3 c ∷ [] in
        let out_stack : filter (λ s. not (s.0 == u)) d.stacked ≡ rest_of d.stacked = ap (filter (λ s. not (s.0 == u))) stacked ∙ first_out (u, unmarked) (map pair w.below) not_below ∙ ap rest_of (sym stacked) in
        subst (IsDoor sites o (middle ++ push p t o ∷ [])) (door_parts (Some u) (Some u) (without t (without u (d.waiting ++ (t, m) ∷ []))) d.waiting ((t, unmarked) ∷ filter (λ s. not (s.0 == u)) d.stacked) ((t, unmarked) ∷ rest_of d.stacked) None None refl (ap (without t) kept_waiting ∙ last_out t m d.waiting no_caller) (ap (λ l. (t, unmarked) ∷ l) out_stack) refl) (push_one sites o middle (admitted u None (behind t m d)) p t door_between)

  -- whatever becomes of it
  abbrev follows : List Entry
  follows = called sites p t o m (inside o j) (open_at o j)

  pub call_agrees : m < member_limit → (follows ≡ told_call p t o (answer d m)) × IsDoor sites o (after ++ follows) (after_call t m d)
  call_agrees lt = by (outcome sites p t o m j d at s st lt)
    where
      there : (es : List Entry) (e : Door) → follows ≡ es → after_call t m d ≡ e → IsDoor sites o (after ++ es) e → IsDoor sites o (after ++ follows) (after_call t m d)
      there es e row door g =
          subst (λ l. IsDoor sites o (after ++ l) (after_call t m d)) (sym row) (subst (IsDoor sites o (after ++ es)) (sym door) g)

      by : Outcome sites p t o m j d follows → (follows ≡ told_call p t o (answer d m)) × IsDoor sites o (after ++ follows) (after_call t m d)
      by (waits e w) =
          (w.row ∙ sym (ap (told_call p t o) e), there [] _ w.row w.door (subst (λ i. IsDoor sites o i (behind t m d)) (sym (append-nil after)) door_waits))
      by (comes e w) = (w.row ∙ sym (ap (told_call p t o) e), there _ _ w.row w.door (door_free w.empty))
      by (taken e w) =
          (w.row ∙ sym (ap (told_call p t o) e), there _ _ w.row w.door (door_taken w.acceptor w.clause w.meets))
      by (pushed u c e w) =
          (w.row ∙ sym (ap (told_call p t o) e), there _ _ w.row w.door (subst (λ i. IsDoor sites o i (let_in u (on_top (t, unmarked) (off_top d)))) (append_assoc after (admit p u o 3 c ∷ []) (push p t o ∷ [])) (door_pushed u c w.meets)))
