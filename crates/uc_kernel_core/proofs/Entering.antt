-- All parts once a task has called, and what its call does at once.
use Rattle.std.proofs.Common.{◌≡◌, ℕ, pos, ◌==◌, ◌<◌, ◌&&◌, Bool, true, false, not, List, [], ◌∷◌, ◌++◌, Option, Some, None, refl, sym, ap, ◌∙◌, subst, length, length-set, set, get_or-set_same, inl}
use Rattle.std.specs.Option.{option_to_list}
use Rattle.std.specs.List.{filter, list_any}
use Rattle.std.proofs.lemmas.List.{set-set, set-get_or}
use Rattle.uc_tree.specs.Programs.{Site}
use Rattle.uc_entry.specs.declared.entry.Entry.{Entry}
use Rattle.uc_entry.specs.declared.entry.EntryKind.TheVariants as kind
use Rattle.uc_entry.specs.declared.entry.Options.{Options}
use Rattle.uc_acts.specs.Journal.{Journal, inside, asking, Cost}
use Rattle.uc_acts.specs.Queues.{running, last_actor}
use Rattle.uc_acts.specs.Doors.{last_call, last_called, calls_destructor, is_member}
use Rattle.uc_acts.specs.Known.{object_count}
use Rattle.uc_acts.specs.Acts.{admit, push, settled}
use Rattle.uc_acts.specs.Stations.{Running, Waits, Stacked, Blocked}
use Rattle.uc_acts.specs.Sound.{At, spot, here}
use Rattle.uc_acts.specs.Legal.{Legal}
use Rattle.uc_acts.proofs.Noted.{last_actor_push}
use Rattle.uc_acts.proofs.SoundLemmas.{self_test, all_kept_nil}
use Rattle.uc_acts.proofs.Moves.{inside_now, spot_moves, spot_stays, apart}
use Rattle.uc_acts.proofs.Stood.{last_same, flip}
use Rattle.uc_links.specs.Lists.{is_nil}
use Rattle.uc_mutex.specs.Doors.{Door, Doors, IsFree, door_at, with_door, behind, let_in, on_top, off_top, has_tasks, unmarked, marked}
use Rattle.uc_kernel_core.specs.DoorLaws.{IsDoor, admitted}
use Rattle.uc_kernel_core.proofs.DoorLemmas.{call}
use Rattle.uc_condition.specs.Waiting.{Waiting}
use Rattle.uc_events.specs.Pending.{Event}
use Rattle.uc_cluster.specs.Standing.{Standing, IsPlaced, IsUnready, processor_at, no_processor, with_processor, made_ready}
use Rattle.uc_cluster.specs.Standing.{running as runs_on}
use Rattle.uc_cluster.specs.declared.clusters.Processor.{Processor}
use Rattle.uc_kernel_core.specs.Mirrors.{Mirrors, queued_at}
use Rattle.uc_kernel_core.proofs.Clusters.{off_now}
use Rattle.uc_kernel_core.proofs.Letting.{door_set}
use Rattle.uc_kernel_core.proofs.Admits.{m_call, m_own, m_admit, waits_stay, admit_placed, admit_unready}
use Rattle.uc_kernel_core.proofs.Steps.{freed, run_at, run_processor}
use Rattle.uc_kernel_core.proofs.Fronts.{set_twice, run_free, kept_by, cut_by}
use Rattle.uc_kernel_core.proofs.Goings.{m_push}
use Rattle.uc_kernel_core.proofs.Calling.{Meets}
use Rattle.uc_kernel_core.proofs.DoorCalls.{door_free, door_taken, acceptor_stacked, door_between, kept_waiting, door_pushed}

-- a task runs again on the processor that it was taken off
run_again : (x : Processor) (t : ℕ) → x.task ≡ Some t → runs_on (Some t) (runs_on None x) ≡ x
run_again x t h = ap (λ y. runs_on y x) (sym h)

pub restored : (standing : Standing) (p t : ℕ) → p < length standing.processors → (processor_at standing p).task ≡ Some t → with_processor (freed standing p) p (runs_on (Some t) (processor_at (freed standing p) p)) ≡ standing
restored standing p t lt is =
    let x = processor_at standing p in
    let there : processor_at (freed standing p) p ≡ runs_on None x = get_or-set_same standing.processors p (runs_on None x) no_processor lt in
    let again : set (set standing.processors p (runs_on None x)) p (runs_on (Some t) (processor_at (freed standing p) p)) ≡ standing.processors = ap (λ y. set (set standing.processors p (runs_on None x)) p (runs_on (Some t) y)) there ∙ set-set standing.processors p (runs_on None x) (runs_on (Some t) (runs_on None x)) ∙ ap (set standing.processors p) (run_again x t is) ∙ set-get_or standing.processors p no_processor in
    ap (λ ps. let v : Standing = record { queues = standing.queues; processors = ps; places = standing.places } in v) again

some_task : (x : Option ℕ) (t : ℕ) → option_to_list x ≡ t ∷ [] → x ≡ Some t
some_task None t h = cc
some_task (Some u) t h = let e : u ≡ t = cc in ap Some e

not_nil : (ws : List (ℕ × ℕ)) (w : ℕ × ℕ) (b : Bool) → not (is_nil (ws ++ w ∷ []) && b) ≡ true
not_nil [] w b = refl
not_nil (x ∷ ws) w b = refl

module _ (opts : Options) (sites : List Site) (j : Journal) (doors : Doors) (waits : Waiting) (events : List (List Event)) (standing : Standing) (marks ins : List Bool) (owners : List (Option ℕ)) (own : List ℕ) (h : Mirrors opts sites j doors waits events standing marks ins owners own) (p t : ℕ) (k : Cost) (o m : ℕ) (l : Legal (asking kind.Call p t k o (pos m) (pos 0)) j) (runs : running p j ≡ t ∷ []) (out : list_any (λ x. x == t) (inside o j) ≡ false) (known : o < object_count j) where
  abbrev the_call : Entry
  the_call = asking kind.Call p t k o (pos m) (pos 0)

  abbrev after : Journal
  after = j ++ the_call ∷ []

  lt : o < length doors.doors
  lt = rw h.doors_are.made known

  free : IsFree t doors
  free = run_free opts sites j doors waits events standing marks ins owners own h p t runs

  pub m_waits : Mirrors opts sites after (with_door doors o (behind t m (door_at doors o))) waits events (freed standing p) (set marks t (m == 0)) ins owners own
  m_waits = m_call opts sites j doors waits events standing marks ins owners own h p t k o m l runs out known

  door_waits : IsDoor sites o after (behind t m (door_at doors o))
  door_waits = call sites o j (door_at doors o) p t k m (h.doors_are.each o lt)

  spot_waits : spot t after ≡ At (Waits o)
  spot_waits = spot_moves j the_call t (self_test t)

  pub inside_after : inside o after ≡ inside o j
  inside_after = inside_now j the_call ∙ all_kept_nil (inside o j)

  last_is : last_call o after t ≡ Some m
  last_is =
      let self = self_test t in
      let now : last_called (last_call o j) kind.Call the_call t ≡ Some m = simp self in
      last_same o j the_call t (self_test o) ∙ now

  pub mark_is : (m == 0) ≡ calls_destructor o t after
  mark_is = sym (ap (is_member 0) last_is)

  acts : last_actor 0 after ≡ t
  acts = last_actor_push 0 j the_call

  idle : running p after ≡ []
  idle = off_now j the_call t runs (self_test t) refl

  -- the caller comes in
  module _ (way : ℕ) (l2 : Legal (admit p t o way 0) after) (empty : inside o j ≡ []) (d : Door) (at : IsDoor sites o (after ++ admit p t o way 0 ∷ []) d) where
    pub m_comes : (v : Doors) → v ≡ with_door doors o d → Mirrors opts sites (after ++ admit p t o way 0 ∷ []) v waits events standing (set marks t (m == 0)) (set ins o (m == 0)) owners own
    m_comes v is =
        let queued : queued_at o (spot t after) ≡ true = ap (queued_at o) spot_waits ∙ self_test o in
        let ws = waits_stay opts sites after (with_door doors o (behind t m (door_at doors o))) waits events (freed standing p) (set marks t (m == 0)) ins owners own m_waits (admit p t o way 0) refl refl (λ u c. ap (here (Blocked u c)) spot_waits) in
        let run = run_processor opts sites j doors waits events standing marks ins owners own h p t runs in
        let now = m_own opts sites after (with_door doors o (behind t m (door_at doors o))) waits events (freed standing p) (set marks t (m == 0)) ins owners own m_waits p t o way 0 false l2 queued (inside_after ∙ empty) (m == 0) mark_is d at waits ws (ap (λ u. t == u) acts ∙ self_test t) idle (rw (length-set standing.processors p (runs_on None (processor_at standing p))) run) in
        let there : (processor_at standing p).task ≡ Some t = some_task (processor_at standing p).task t (h.clusters_are.runs p ∙ runs) in
        let one : with_door (with_door doors o (behind t m (door_at doors o))) o d ≡ v = set_twice doors o (behind t m (door_at doors o)) d ∙ sym is in
        subst (λ w. Mirrors opts sites (after ++ admit p t o way 0 ∷ []) v waits events w (set marks t (m == 0)) (set ins o (m == 0)) owners own) (restored standing p t run there) (subst (λ w. Mirrors opts sites (after ++ admit p t o way 0 ∷ []) w waits events (with_processor (freed standing p) p (runs_on (Some t) (processor_at (freed standing p) p))) (set marks t (m == 0)) (set ins o (m == 0)) owners own) one now)

  -- freely
  pub free_door : inside o j ≡ [] → IsDoor sites o (after ++ admit p t o 0 0 ∷ []) (let_in t (door_at doors o))
  free_door = door_free sites o j (door_at doors o) (h.doors_are.each o lt) h.sound h.stood p t k m (free o lt).0 (free o lt).1

  -- at an open accept
  module _ (u c : ℕ) (w : Meets sites o m c j u) where
    pub taken_door : IsDoor sites o (after ++ admit p t o 1 0 ∷ []) (let_in t (on_top (u, marked c t) (off_top (door_at doors o))))
    taken_door = door_taken sites o j (door_at doors o) (h.doors_are.each o lt) h.sound h.stood p t k m (free o lt).0 (free o lt).1 u c w

    -- the caller of a destructor
    at_stack : spot u j ≡ At (Stacked o)
    at_stack = acceptor_stacked sites o j (door_at doors o) (h.doors_are.each o lt) h.sound h.stood p t k m (free o lt).0 (free o lt).1 u c w

    pub acceptor_other : (u == t) ≡ false
    acceptor_other =
        apart j u t (At (Stacked o)) (At (Running p)) at_stack (run_at opts sites j doors waits events standing marks ins owners own h p t runs) (λ e. cc)

    pub acceptor_after : spot u after ≡ At (Stacked o)
    acceptor_after = spot_stays j the_call u acceptor_other ∙ at_stack

    module _ (l2 : Legal (admit p u o 3 c) after) (b : Bool) (mark : b ≡ calls_destructor o u after) where
      abbrev middle : Journal
      middle = after ++ admit p u o 3 c ∷ []

      abbrev door_then : Door
      door_then = admitted u None (behind t m (door_at doors o))

      at_between : IsDoor sites o middle door_then
      at_between = door_between sites o j (door_at doors o) (h.doors_are.each o lt) h.sound h.stood p t k m (free o lt).0 (free o lt).1 u c w

      queued_acceptor : queued_at o (spot u after) ≡ true
      queued_acceptor = ap (queued_at o) acceptor_after ∙ self_test o

      -- the acceptor goes on
      pub m_acceptor : Mirrors opts sites middle (with_door (with_door doors o (behind t m (door_at doors o))) o door_then) waits events (made_ready u (freed standing p)) (set marks t (m == 0)) (set ins o b) owners own
      m_acceptor =
          m_admit opts sites after (with_door doors o (behind t m (door_at doors o))) waits events (freed standing p) (set marks t (m == 0)) ins owners own m_waits p u o 3 c false l2 queued_acceptor (inside_after ∙ w.empty) b mark door_then at_between waits (waits_stay opts sites after (with_door doors o (behind t m (door_at doors o))) waits events (freed standing p) (set marks t (m == 0)) ins owners own m_waits (admit p u o 3 c) refl refl (λ v k. ap (here (Blocked v k)) acceptor_after)) (ap (λ v. u == v) acts ∙ acceptor_other)

      pub acceptor_placed : IsPlaced u (freed standing p)
      acceptor_placed =
          admit_placed opts sites after (with_door doors o (behind t m (door_at doors o))) waits events (freed standing p) (set marks t (m == 0)) ins owners own m_waits p u o 3 c false l2 queued_acceptor (inside_after ∙ w.empty) b mark door_then at_between waits (waits_stay opts sites after (with_door doors o (behind t m (door_at doors o))) waits events (freed standing p) (set marks t (m == 0)) ins owners own m_waits (admit p u o 3 c) refl refl (λ v k. ap (here (Blocked v k)) acceptor_after))

      pub acceptor_unready : IsUnready u (freed standing p)
      acceptor_unready =
          admit_unready opts sites after (with_door doors o (behind t m (door_at doors o))) waits events (freed standing p) (set marks t (m == 0)) ins owners own m_waits p u o 3 c false l2 queued_acceptor (inside_after ∙ w.empty) b mark door_then at_between waits (waits_stay opts sites after (with_door doors o (behind t m (door_at doors o))) waits events (freed standing p) (set marks t (m == 0)) ins owners own m_waits (admit p u o 3 c) refl refl (λ v k. ap (here (Blocked v k)) acceptor_after))

      -- the caller waits there still, so the object is in use
      known_between : o < length (with_door (with_door doors o (behind t m (door_at doors o))) o door_then).doors
      known_between = rw (length-set (set doors.doors o (behind t m (door_at doors o))) o door_then, length-set doors.doors o (behind t m (door_at doors o))) lt

      used_between : has_tasks door_then ≡ true
      used_between =
          ap (λ ws. not (is_nil ws && is_nil (filter (λ s. not (s.0 == u)) (door_at doors o).stacked))) (kept_waiting sites o j (door_at doors o) (h.doors_are.each o lt) h.sound h.stood p t k m (free o lt).0 (free o lt).1 u c w) ∙ not_nil (door_at doors o).waiting (t, m) (is_nil (filter (λ s. not (s.0 == u)) (door_at doors o).stacked))

      pub acceptor_cut : (f : Entry) (rest : List Entry) → b ≡ true → settled f after (admit p u o 3 c ∷ rest) ≡ record f { ticks = 0; line = 0 } ∷ []
      acceptor_cut f rest so =
          let there : door_at (with_door (with_door doors o (behind t m (door_at doors o))) o door_then) o ≡ door_then = door_set (with_door doors o (behind t m (door_at doors o))) o door_then (rw (length-set doors.doors o (behind t m (door_at doors o))) lt) in
          cut_by opts sites after p u o 3 c (with_door (with_door doors o (behind t m (door_at doors o))) o door_then) waits events (made_ready u (freed standing p)) (set marks t (m == 0)) (set ins o b) owners own m_acceptor known_between b mark f rest (so, inl (ap has_tasks there ∙ used_between))

      pub acceptor_kept : (f : Entry) (rest : List Entry) → b ≡ false → settled f after (admit p u o 3 c ∷ rest) ≡ admit p u o 3 c ∷ settled f middle rest
      acceptor_kept f rest so =
          kept_by opts sites after p u o 3 c (with_door (with_door doors o (behind t m (door_at doors o))) o door_then) waits events (made_ready u (freed standing p)) (set marks t (m == 0)) (set ins o b) owners own m_acceptor known_between b mark f rest (inl so)

      -- and the caller goes on the stack
      caller_between : spot t middle ≡ At (Waits o)
      caller_between = spot_stays after (admit p u o 3 c) t (flip u t false acceptor_other) ∙ spot_waits

      pub m_pushed : Legal (push p t o) middle → (v : Doors) → v ≡ with_door doors o (let_in u (on_top (t, unmarked) (off_top (door_at doors o)))) → Mirrors opts sites (middle ++ push p t o ∷ []) v waits events (made_ready u (freed standing p)) (set marks t (m == 0)) (set ins o b) owners own
      m_pushed l3 v is =
          let d3 = let_in u (on_top (t, unmarked) (off_top (door_at doors o))) in
          let v2 = with_door (with_door doors o (behind t m (door_at doors o))) o door_then in
          let now = m_push opts sites middle v2 waits events (made_ready u (freed standing p)) (set marks t (m == 0)) (set ins o b) owners own m_acceptor p t o l3 (ap (queued_at o) caller_between ∙ self_test o) d3 (door_pushed sites o j (door_at doors o) (h.doors_are.each o lt) h.sound h.stood p t k m (free o lt).0 (free o lt).1 u c w) (inside_now middle (push p t o) ∙ all_kept_nil (inside o middle)) waits (waits_stay opts sites middle v2 waits events (made_ready u (freed standing p)) (set marks t (m == 0)) (set ins o b) owners own m_acceptor (push p t o) refl refl (λ x k. ap (here (Blocked x k)) caller_between)) in
          let one : with_door v2 o d3 ≡ v = set_twice (with_door doors o (behind t m (door_at doors o))) o door_then d3 ∙ set_twice doors o (behind t m (door_at doors o)) d3 ∙ sym is in
          subst (λ x. Mirrors opts sites (middle ++ push p t o ∷ []) x waits events (made_ready u (freed standing p)) (set marks t (m == 0)) (set ins o b) owners own) one now
