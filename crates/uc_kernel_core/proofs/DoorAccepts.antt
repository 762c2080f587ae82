-- The door of an object once an accept has taken a caller.
use Rattle.std.proofs.Common.{◌≡◌, ◌≢◌, ℕ, ◌==◌, Bool, true, false, not, cond, List, [], ◌∷◌, ◌++◌, Option, Some, None, refl, sym, ap, ◌∙◌, subst}
use Rattle.std.specs.List.{filter, AllByRecursion}
use Rattle.std.proofs.lemmas.Bool.{eqb-true}
use Rattle.uc_tree.specs.Programs.{Site}
use Rattle.uc_tree.specs.SiteOffers.{Met, met, met_or, oldest, clause_for, or_0}
use Rattle.uc_entry.specs.declared.entry.Entry.{Entry}
use Rattle.uc_acts.specs.Journal.{Journal, Cost, inside}
use Rattle.uc_acts.specs.Queues.{waiting}
use Rattle.uc_acts.specs.Doors.{OnStack, offers, next_met, stack_at, taken_off, last_call}
use Rattle.uc_acts.specs.Acts.{admit, push, accept_entry}
use Rattle.uc_acts.specs.Stations.{Waits, Stacked, times}
use Rattle.uc_acts.specs.Sound.{At, Each, Sound, Stood, spot, here}
use Rattle.uc_acts.proofs.SoundLemmas.{self_test}
use Rattle.uc_acts.proofs.Moves.{counted_at, met_counts}
use Rattle.uc_acts.proofs.Stood.{stands_same, flip}
use Rattle.uc_links.specs.Lists.{without}
use Rattle.uc_mutex.specs.Doors.{Door, unmarked, marked, on_top, let_in}
use Rattle.uc_accept.specs.Accepting.{out_of_queue}
use Rattle.uc_kernel_core.specs.DoorLaws.{IsDoor, goes_on_top, admitted, met_by}
use Rattle.uc_kernel_core.proofs.DoorLemmas.{accepts, meets, push_one, still}
use Rattle.uc_kernel_core.proofs.Doors.{stacks_apart}
use Rattle.uc_kernel_core.proofs.Marks.{last_all}
use Rattle.uc_kernel_core.proofs.Nexts.{door_parts, nobody_out}
use Rattle.uc_kernel_core.proofs.Blocking.{none_open, shut_of}
use Rattle.uc_kernel_core.proofs.DoorCalls.{pairs_task}

-- whoever is taken is the oldest caller of its member
pub met_oldest : (xs ws : List (ℕ × ℕ)) (x : Met) → met xs ws ≡ Some x → oldest x.member ws ≡ Some x.task
met_oldest [] ws x h = cc
met_oldest (z ∷ zs) ws x h = on (λ g. met_oldest zs ws x g) (oldest z.1 ws) refl
  where
    parts : (u : ℕ) → Some (record { clause = z.0; member = z.1; task = u }) ≡ Some x → (z.1 ≡ x.member) × (u ≡ x.task)
    parts u e =
        let f : record { clause = z.0; member = z.1; task = u } ≡ x = cc in
        (ap (λ (m : Met). m.member) f, ap (λ (m : Met). m.task) f)

    on : (met zs ws ≡ Some x → oldest x.member ws ≡ Some x.task) → (o : Option ℕ) → oldest z.1 ws ≡ o → oldest x.member ws ≡ Some x.task
    on ih None k = ih (sym (ap (λ o. met_or z o (met zs ws)) k) ∙ h)
    on ih (Some u) k =
        let f = parts u (sym (ap (λ o. met_or z o (met zs ws)) k) ∙ h) in
        ap (λ m. oldest m ws) (sym f.0) ∙ k ∙ ap Some f.1

-- of the members offered, the one taken is listed first by its clause
pub met_clause : (xs ws : List (ℕ × ℕ)) (x : Met) → met xs ws ≡ Some x → clause_for xs x.member ≡ Some x.clause
met_clause [] ws x h = cc
met_clause (y ∷ xs) ws x h = by (λ g. met_clause xs ws x g) (oldest y.1 ws) refl (y.1 == x.member) refl
  where
    clash : (a : ℕ) → Some a ≡ None → ⊥
    clash a e = cc

    by : (met xs ws ≡ Some x → clause_for xs x.member ≡ Some x.clause) → (o : Option ℕ) → oldest y.1 ws ≡ o → (b : Bool) → (y.1 == x.member) ≡ b → clause_for (y ∷ xs) x.member ≡ Some x.clause
    by ih None k true s =
        let later : met xs ws ≡ Some x = sym (ap (λ o. met_or y o (met xs ws)) k) ∙ h in
        absurd (clash x.task (sym (met_oldest xs ws x later) ∙ ap (λ m. oldest m ws) (sym (eqb-true y.1 x.member s)) ∙ k))
    by ih None k false s =
        ap (λ b. cond b (Some y.0) (clause_for xs x.member)) s ∙ ih (sym (ap (λ o. met_or y o (met xs ws)) k) ∙ h)
    by ih (Some u) k b s =
        let e : Some (record { clause = y.0; member = y.1; task = u }) ≡ Some x = sym (ap (λ o. met_or y o (met xs ws)) k) ∙ h in
        let f = parts (record { clause = y.0; member = y.1; task = u }) x e in
        ap (λ b. cond b (Some y.0) (clause_for xs x.member)) (ap (λ m. y.1 == m) (sym f.1) ∙ self_test y.1) ∙ ap Some f.0
      where
        parts : (a b : Met) → Some a ≡ Some b → (a.clause ≡ b.clause) × (a.member ≡ b.member)
        parts a b e = let f : a ≡ b = cc in (ap (λ (m : Met). m.clause) f, ap (λ (m : Met). m.member) f)

-- and its oldest caller called that member last
pub oldest_each : (p : ℕ × ℕ → Type 0) (m u : ℕ) (ws : List (ℕ × ℕ)) → Each p ws → oldest m ws ≡ Some u → p (u, m)
oldest_each p m u [] a h = cc
oldest_each p m u (w ∷ ws) a h = by (λ g. oldest_each p m u ws a.1 g) (w.1 == m) refl
  where
    some : (a b : ℕ) → Some a ≡ Some b → a ≡ b
    some a b e = cc

    by : (oldest m ws ≡ Some u → p (u, m)) → (b : Bool) → (w.1 == m) ≡ b → p (u, m)
    by ih true g =
        let first : w.0 ≡ u = some w.0 u (sym (ap (λ b. cond b (Some w.0) (oldest m ws)) g) ∙ h) in
        let second : w.1 ≡ m = eqb-true w.1 m g in
        subst (λ x. p (x, m)) first (subst (λ y. p (w.0, y)) second a.0)
    by ih false g = ih (sym (ap (λ b. cond b (Some w.0) (oldest m ws)) g) ∙ h)

each_of : {A : Type 0} (P : A → Type 0) (xs : List A) → AllByRecursion P xs → Each P xs
each_of P [] h = tt
each_of P (x ∷ xs) h = (h.0, each_of P xs h.1)

other_test : (b : Bool) → (b ≡ true → ⊥) → b ≡ false
other_test true h = absurd (h refl)
other_test false h = refl

-- task t on p accepts at o, which it is inside; it waits nowhere. Somebody is found
module _ (sites : List Site) (o : ℕ) (j : Journal) (d : Door) (at : IsDoor sites o j d) (s : Sound j) (st : Stood sites j) (p t : ℕ) (k : Cost) (site mask : ℕ) (b : Bool) (within : inside o j ≡ t ∷ []) (no_caller : AllByRecursion (λ w. w.0 ≢ t) d.waiting) (m : Met) (found : next_met sites site mask o j ≡ Some m) where
  pub taken_waits : spot m.task j ≡ At (Waits o)
  taken_waits =
      let c = met_counts (offers sites site mask) (waiting o j) m found in
      counted_at j s (Waits o) m.task c.0 c.1

  pub taken_other : (m.task == t) ≡ false
  taken_other =
      let callers = each_of (λ w. w.0 ≢ t) (waiting o j) (subst (AllByRecursion (λ w. w.0 ≢ t)) at.waiting no_caller) in
      let apart = oldest_each (λ w. w.0 ≢ t) m.member m.task (waiting o j) callers (met_oldest (offers sites site mask) (waiting o j) m found) in
      other_test (m.task == t) (λ g. apart (eqb-true m.task t g))

  pub taken_called : last_call o j m.task ≡ Some m.member
  taken_called =
      oldest_each (λ w. last_call o j w.0 ≡ Some w.1) m.member m.task (waiting o j) (st.calls o) (met_oldest (offers sites site mask) (waiting o j) m found)

  -- the caller of a destructor goes on the stack
  pub door_destroyer : IsDoor sites o ((j ++ accept_entry p t k o site mask b 3 ∷ []) ++ push p m.task o ∷ []) (on_top (m.task, unmarked) (out_of_queue m.task d))
  door_destroyer =
      let a = accept_entry p t k o site mask b 3 in
      push_one sites o (j ++ a ∷ []) d p m.task (still sites j d a refl at)

  -- any other comes in, and the acceptor goes on the stack
  abbrev the_accept : Entry
  the_accept = accept_entry p t k o site mask b 1

  abbrev after : Journal
  after = j ++ the_accept ∷ []

  abbrev door_after : Door
  door_after = goes_on_top t None d

  pub at_after : IsDoor sites o after door_after
  at_after = accepts sites o j d p t k site mask b within (none_open sites o j d at (shut_of j o t s within)) at

  pub empty_after : inside o after ≡ []
  empty_after = sym at_after.within

  pub last_after : last_call o after m.task ≡ Some m.member
  last_after = last_all o j the_accept (λ on u. refl) m.task ∙ taken_called

  none_stacked : AllByRecursion (λ x. x.0 ≢ m.task) d.stacked
  none_stacked =
      stacks_apart m.task (stack_at sites o j) d.stacked at.stacked (ap (times m.task) (st.tasks o) ∙ s.seats m.task (Stacked o) ∙ ap (here (Stacked o)) taken_waits)

  abbrev acceptor : OnStack
  acceptor = record { task = t; offers = offers sites site mask; clause = 0; met = None; failed = false }

  taken_now : taken_off m.task (stack_at sites o after) ≡ acceptor ∷ stack_at sites o j
  taken_now =
      ap (taken_off m.task) (stands_same sites o j the_accept (self_test o)) ∙ ap (λ y. cond (not y) (acceptor ∷ taken_off m.task (stack_at sites o j)) (taken_off m.task (stack_at sites o j))) (flip m.task t false taken_other) ∙ ap (λ l. acceptor ∷ l) (pairs_task m.task (stack_at sites o j) (subst (AllByRecursion (λ x. x.0 ≢ m.task)) at.stacked none_stacked))

  pub door_caller : (c : ℕ) → m.clause ≡ c → IsDoor sites o (after ++ admit p m.task o 1 0 ∷ []) (let_in m.task (on_top (t, marked c m.task) (out_of_queue m.task d)))
  door_caller c clause =
      let by : or_0 (clause_for (offers sites site mask) m.member) ≡ c = ap or_0 (met_clause (offers sites site mask) (waiting o j) m found) ∙ clause in
      let off : filter (λ x. not (x.0 == m.task)) ((t, unmarked) ∷ d.stacked) ≡ (t, unmarked) ∷ d.stacked = ap (λ y. cond (not y) ((t, unmarked) ∷ filter (λ x. not (x.0 == m.task)) d.stacked) (filter (λ x. not (x.0 == m.task)) d.stacked)) (flip m.task t false taken_other) ∙ ap (λ l. (t, unmarked) ∷ l) (nobody_out m.task d.stacked none_stacked) in
      subst (IsDoor sites o (after ++ admit p m.task o 1 0 ∷ [])) (ap (λ n. admitted m.task (Some n) door_after) by ∙ door_parts (Some m.task) (Some m.task) (without m.task d.waiting) (without m.task d.waiting) (met_by m.task (Some c) (filter (λ x. not (x.0 == m.task)) ((t, unmarked) ∷ d.stacked))) ((t, marked c m.task) ∷ d.stacked) None None refl refl (ap (met_by m.task (Some c)) off) refl) (meets sites o after door_after p m.task 0 m.member acceptor (stack_at sites o j) last_after taken_now empty_after at_after)
