-- What a call does to all parts, and the entries of its request, by what becomes of it.
use Rattle.std.proofs.Common.{◌≡◌, ℕ, pos, ◌==◌, ◌<◌, ◌≤◌, Bool, true, false, List, [], ◌∷◌, ◌++◌, Option, refl, sym, ap, ◌∙◌, subst, arith, length, length-set, set, get_or, ⊎_elim}
use Rattle.std.specs.Prelude.{◌⊎◌}
use Rattle.uc_tree.specs.Programs.{Site}
use Rattle.uc_tree.specs.declared.limits.TheConstants.{MEMBERS}
use Rattle.uc_entry.specs.declared.entry.Entry.{Entry}
use Rattle.uc_entry.specs.declared.entry.Options.{Options}
use Rattle.uc_entry.specs.declared.entry.EntryKind.TheVariants as kind
use Rattle.uc_entry.specs.declared.request.Request.TheVariants as ask
use Rattle.uc_acts.specs.Journal.{Journal, inside, asking, no_cost, Cost}
use Rattle.uc_acts.specs.Queues.{running}
use Rattle.uc_acts.specs.Doors.{open_at, calls_destructor}
use Rattle.uc_acts.specs.Known.{task_count}
use Rattle.uc_acts.specs.KernelRuns.{IsOutside}
use Rattle.uc_acts.specs.Acts.{admit, push, called, fault, row, settled}
use Rattle.uc_acts.specs.Stations.{Stacked}
use Rattle.uc_acts.specs.Legal.{Legal}
use Rattle.uc_acts.proofs.Moves.{known_at}
use Rattle.uc_acts.proofs.Rows.{Lawful}
use Rattle.uc_links.specs.Lists.{member_limit}
use Rattle.uc_mutex.specs.declared.called.Called.TheVariants as called_as
use Rattle.uc_mutex.specs.Doors.{Doors, IsFree, door_at, with_door, after_call, answer, has_tasks}
use Rattle.uc_condition.specs.Waiting.{Waiting, IsBusy, queue_at}
use Rattle.uc_events.specs.Pending.{Event}
use Rattle.uc_cluster.specs.Standing.{Standing, IsPlaced, IsUnready, made_ready}
use Rattle.uc_kernel_core.specs.Mirrors.{Mirrors, queued_at}
use Rattle.uc_kernel_core.proofs.Steps.{freed}
use Rattle.uc_kernel_core.proofs.Fronts.{kept_by, cut_by}
use Rattle.uc_kernel_core.proofs.Several.{rest_lawful}
use Rattle.uc_kernel_core.proofs.Calling.{Waits, Free, Taken, Destroys, waits_by, comes_by, pushed_by}
use Rattle.uc_kernel_core.proofs.Entering.{m_waits, m_comes, mark_is, free_door, taken_door, acceptor_after, acceptor_placed, acceptor_unready, acceptor_cut, acceptor_kept, m_pushed}
use Rattle.uc_kernel_core.proofs.DoorCalls.{acceptor_stacked}
use Rattle.uc_kernel_core.proofs.Fronts.{run_free}
use Rattle.uc_acts.proofs.SoundLemmas.{self_test}

module _ (opts : Options) (sites : List Site) (j : Journal) (doors : Doors) (waits : Waiting) (events : List (List Event)) (standing : Standing) (marks ins : List Bool) (owners : List (Option ℕ)) (own : List ℕ) (h : Mirrors opts sites j doors waits events standing marks ins owners own) (input : List ℕ) (p t : ℕ) (k : Cost) (line o m : ℕ) (runs : running p j ≡ t ∷ []) (out : IsOutside t o j) (small : m ≤ MEMBERS) where
  abbrev the_call : Entry
  the_call = asking kind.Call p t k o (pos m) (pos 0)

  abbrev after : Journal
  after = j ++ the_call ∷ []

  abbrev the_fault : Entry
  the_fault = fault p t no_cost 10 line

  abbrev follows : List Entry
  follows = called sites p t o m (inside o j) (open_at o j)

  -- the entries of the request
  abbrev all : List Entry
  all = settled the_fault j (row opts sites input j p t k line (ask.Call o m))

  lt : o < length doors.doors
  lt = rw h.doors_are.made out.known.made

  free : IsFree t doors
  free = run_free opts sites j doors waits events standing marks ins owners own h p t runs

  few : m < member_limit
  few = omega arith

  lawful : Legal the_call j × Lawful after follows
  lawful = rest_lawful opts sites input j p t k line (ask.Call o m) the_call follows h.sound runs (out, small) refl

  all_by : (es : List Entry) → follows ≡ es → all ≡ the_call ∷ settled the_fault after es
  all_by es e = ap (λ x. the_call ∷ settled the_fault after x) e

  -- the caller waits
  module _ (e : called_as.Waits ≡ answer (door_at doors o) m) (v : Doors) (is : v ≡ with_door doors o (after_call t m (door_at doors o))) where
    waiting : Waits t m (door_at doors o) follows
    waiting = waits_by sites p t o m j (door_at doors o) (h.doors_are.each o lt) h.sound h.stood few e

    pub waits_row : all ≡ the_call ∷ []
    waits_row = all_by [] waiting.row

    pub waits_mirrors : Mirrors opts sites after v waits events (freed standing p) (set marks t (m == 0)) ins owners own
    waits_mirrors =
        subst (λ w. Mirrors opts sites after w waits events (freed standing p) (set marks t (m == 0)) ins owners own) (sym (is ∙ ap (with_door doors o) waiting.door)) (m_waits opts sites j doors waits events standing marks ins owners own h p t k o m lawful.0 runs out.outside out.known.made)

  -- the caller comes in
  pub record Entered (way : ℕ) (v : Doors) : Type 0 where
    pub follows_is : follows ≡ admit p t o way 0 ∷ []
    pub mirrors : Mirrors opts sites (after ++ admit p t o way 0 ∷ []) v waits events standing (set marks t (m == 0)) (set ins o (m == 0)) owners own

  entered_freely : (v : Doors) → v ≡ with_door doors o (after_call t m (door_at doors o)) → Free p t o m j (door_at doors o) follows → Entered 0 v
  entered_freely v is f =
      let l2 = subst (Lawful after) f.row lawful.1 in
      record {
        follows_is = f.row;
        mirrors = m_comes opts sites j doors waits events standing marks ins owners own h p t k o m lawful.0 runs out.outside out.known.made 0 l2.0 f.empty _ (free_door opts sites j doors waits events standing marks ins owners own h p t k o m lawful.0 runs out.outside out.known.made f.empty) v (is ∙ ap (with_door doors o) f.door);
      }

  entered_taken : (v : Doors) → v ≡ with_door doors o (after_call t m (door_at doors o)) → Taken sites p t o m j (door_at doors o) follows → Entered 1 v
  entered_taken v is f =
      let l2 = subst (Lawful after) f.row lawful.1 in
      record {
        follows_is = f.row;
        mirrors = m_comes opts sites j doors waits events standing marks ins owners own h p t k o m lawful.0 runs out.outside out.known.made 1 l2.0 f.meets.empty _ (taken_door opts sites j doors waits events standing marks ins owners own h p t k o m lawful.0 runs out.outside out.known.made f.acceptor f.clause f.meets) v (is ∙ ap (with_door doors o) f.door);
      }

  module _ (way : ℕ) (e : called_as.In way ≡ answer (door_at doors o) m) (v : Doors) (is : v ≡ with_door doors o (after_call t m (door_at doors o))) where
    pub entered : Entered way v
    entered =
        ⊎_elim (λ x. subst (λ n. Entered n v) (sym x.0) (entered_freely v is x.1)) (λ x. subst (λ n. Entered n v) (sym x.0) (entered_taken v is x.1)) (comes_by sites p t o m j (door_at doors o) (h.doors_are.each o lt) h.sound h.stood few way e)

    known_now : o < length v.doors
    known_now = rw (ap (λ (w : Doors). length w.doors) is ∙ length-set doors.doors o (after_call t m (door_at doors o))) lt

    mark_now : (m == 0) ≡ calls_destructor o t after
    mark_now = mark_is opts sites j doors waits events standing marks ins owners own h p t k o m lawful.0 runs out.outside out.known.made

    pub entered_kept : ((m == 0) ≡ false) ⊎ ((has_tasks (door_at v o) ≡ false) × ((c : ℕ) → queue_at waits o c ≡ [])) → all ≡ the_call ∷ admit p t o way 0 ∷ []
    entered_kept x =
        all_by (admit p t o way 0 ∷ []) entered.follows_is ∙ ap (λ l. the_call ∷ l) (kept_by opts sites after p t o way 0 v waits events standing (set marks t (m == 0)) (set ins o (m == 0)) owners own entered.mirrors known_now (m == 0) mark_now the_fault [] x)

    pub entered_cut : ((m == 0) ≡ true) × ((has_tasks (door_at v o) ≡ true) ⊎ IsBusy o waits) → all ≡ the_call ∷ the_fault ∷ []
    entered_cut x =
        all_by (admit p t o way 0 ∷ []) entered.follows_is ∙ ap (λ l. the_call ∷ l) (cut_by opts sites after p t o way 0 v waits events standing (set marks t (m == 0)) (set ins o (m == 0)) owners own entered.mirrors known_now (m == 0) mark_now the_fault [] x)

  -- the caller of a destructor goes on the stack, and the acceptor comes in
  module _ (u c : ℕ) (e : called_as.Pushed u c ≡ answer (door_at doors o) m) (v : Doors) (is : v ≡ with_door doors o (after_call t m (door_at doors o))) where
    destroys : Destroys sites p t o m u c j (door_at doors o) follows
    destroys = pushed_by sites p t o m j (door_at doors o) (h.doors_are.each o lt) h.sound h.stood few u c e

    lawful_both : Lawful after (admit p u o 3 c ∷ push p t o ∷ [])
    lawful_both = subst (Lawful after) destroys.row lawful.1

    pub acceptor_known : u < task_count j
    acceptor_known =
        known_at j h.sound u (Stacked o) (acceptor_stacked sites o j (door_at doors o) (h.doors_are.each o lt) h.sound h.stood p t k m (free o lt).0 (free o lt).1 u c destroys.meets)

    acceptor_mark : (b x : Bool) → b ≡ get_or (set marks t (m == 0)) u x → b ≡ calls_destructor o u after
    acceptor_mark b x was =
        let first = m_waits opts sites j doors waits events standing marks ins owners own h p t k o m lawful.0 runs out.outside out.known.made in
        let n : length (set marks t (m == 0)) ≡ length marks = length-set marks t (m == 0) in
        let size = h.marks_are.tasks in
        let most = h.few in
        let known = acceptor_known in
        was ∙ first.marks_are.marked u o x (omega arith) (ap (queued_at o) (acceptor_after opts sites j doors waits events standing marks ins owners own h p t k o m lawful.0 runs out.outside out.known.made u c destroys.meets) ∙ self_test o)

    module _ (b x : Bool) (was : b ≡ get_or (set marks t (m == 0)) u x) where
      pub passed_placed : IsPlaced u (freed standing p)
      passed_placed =
          acceptor_placed opts sites j doors waits events standing marks ins owners own h p t k o m lawful.0 runs out.outside out.known.made u c destroys.meets lawful_both.0 b (acceptor_mark b x was)

      pub passed_unready : IsUnready u (freed standing p)
      passed_unready =
          acceptor_unready opts sites j doors waits events standing marks ins owners own h p t k o m lawful.0 runs out.outside out.known.made u c destroys.meets lawful_both.0 b (acceptor_mark b x was)

      pub passed_mirrors : Mirrors opts sites ((after ++ admit p u o 3 c ∷ []) ++ push p t o ∷ []) v waits events (made_ready u (freed standing p)) (set marks t (m == 0)) (set ins o b) owners own
      passed_mirrors =
          m_pushed opts sites j doors waits events standing marks ins owners own h p t k o m lawful.0 runs out.outside out.known.made u c destroys.meets lawful_both.0 b (acceptor_mark b x was) lawful_both.1.0 v (is ∙ ap (with_door doors o) destroys.door)

      pub passed_kept : b ≡ false → all ≡ the_call ∷ admit p u o 3 c ∷ push p t o ∷ []
      passed_kept so =
          all_by (admit p u o 3 c ∷ push p t o ∷ []) destroys.row ∙ ap (λ l. the_call ∷ l) (acceptor_kept opts sites j doors waits events standing marks ins owners own h p t k o m lawful.0 runs out.outside out.known.made u c destroys.meets lawful_both.0 b (acceptor_mark b x was) the_fault (push p t o ∷ []) so)

      pub passed_cut : b ≡ true → all ≡ the_call ∷ the_fault ∷ []
      passed_cut so =
          all_by (admit p u o 3 c ∷ push p t o ∷ []) destroys.row ∙ ap (λ l. the_call ∷ l) (acceptor_cut opts sites j doors waits events standing marks ins owners own h p t k o m lawful.0 runs out.outside out.known.made u c destroys.meets lawful_both.0 b (acceptor_mark b x was) the_fault (push p t o ∷ []) so)
