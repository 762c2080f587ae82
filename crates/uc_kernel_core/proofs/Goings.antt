-- All parts with one entry more by which the task inside an object goes into a queue of it, a task goes from a queue of an object to
-- its stack, or nothing moves.
use Rattle.std.proofs.Common.{◌≡◌, ℕ, ◌==◌, ◌<◌, Bool, true, false, List, [], ◌∷◌, ◌++◌, Option, None, refl, sym, ap, ◌∙◌, length, length-set, set, get_or}
use Rattle.std.specs.Option.{option_to_list}
use Rattle.std.proofs.lemmas.Bool.{eqb-true}
use Rattle.uc_tree.specs.Programs.{Site}
use Rattle.uc_entry.specs.declared.entry.Entry.{Entry}
use Rattle.uc_entry.specs.declared.entry.EntryKind.{EntryKind}
use Rattle.uc_entry.specs.declared.entry.Options.{Options}
use Rattle.uc_acts.specs.Journal.{Journal, inside, owns}
use Rattle.uc_acts.specs.Queues.{Noted, readies, dispatches, puts_on, takes_off, clusters, is_cluster, running}
use Rattle.uc_acts.specs.Doors.{last_called, calls_destructor, is_member}
use Rattle.uc_acts.specs.Known.{is_make, is_spawn, object_count, owned}
use Rattle.uc_acts.specs.Acts.{push}
use Rattle.uc_acts.specs.Stations.{Running}
use Rattle.uc_acts.specs.Sound.{mover, target, spot}
use Rattle.uc_acts.specs.Legal.{Legal}
use Rattle.uc_acts.proofs.Noted.{noted_at}
use Rattle.uc_acts.proofs.SoundLemmas.{self_test}
use Rattle.uc_acts.proofs.Moves.{spot_stays, spot_moves, first_at}
use Rattle.uc_acts.proofs.Stood.{flip}
use Rattle.uc_mutex.specs.Doors.{Door, Doors, door_at, with_door}
use Rattle.uc_kernel_core.specs.DoorLaws.{IsDoor, is_still}
use Rattle.uc_kernel_core.proofs.DoorLemmas.{still}
use Rattle.uc_condition.specs.Waiting.{Waiting}
use Rattle.uc_events.specs.Pending.{Event}
use Rattle.uc_events.specs.Laws.{tells}
use Rattle.uc_cluster.specs.Standing.{Standing}
use Rattle.uc_cluster.specs.Laws.{tells_processor, tells_place}
use Rattle.uc_cluster.proofs.Desks.{open_stays}
use Rattle.uc_kernel_core.specs.Mirrors.{Mirrors, WaitsAre, queued_at, is_at}
use Rattle.uc_kernel_core.proofs.Doors.{doors_set, doors_same, events_silent, owners_silent}
use Rattle.uc_kernel_core.proofs.Clusters.{Keeps, clusters_by, ready_stays, run_set, run_stays, off_now}
use Rattle.uc_kernel_core.proofs.Marks.{last_all, marks_by, marked_same, marked_set, entered_same}
use Rattle.uc_kernel_core.proofs.Admits.{queued_spot}
use Rattle.uc_kernel_core.proofs.Steps.{Calm, with_parts, m_calm, freed, run_processor}

-- an entry by which its task goes off its processor into a queue of its object
pub record Goes (k : EntryKind) (e : Entry) : Type 0 where
  pub make : is_make k ≡ false
  pub spawn : is_spawn k ≡ false
  pub event : tells k ≡ false
  pub readies : (t : ℕ) → readies k e t ≡ None
  pub dispatches : (t : ℕ) → dispatches k e t ≡ false
  pub takes_off : takes_off k e e.task ≡ true
  pub puts_on : (t : ℕ) → puts_on k e t ≡ None
  pub clusters : (on : ℕ → ℕ) (t : ℕ) → clusters on k e t ≡ on t
  pub cluster : is_cluster k ≡ false
  pub mover : (t : ℕ) → mover k e t ≡ (t == e.task)
  pub queued : (x : Noted) → x.entry ≡ e → (o : ℕ) → queued_at o (target k x e.task) ≡ (e.object == o)
  pub desk : tells_processor k ≡ false
  pub stand : tells_place k ≡ false
  pub owned : owned k e ≡ None
  pub owns : (t : ℕ) → owns t k e ≡ None
  pub last : (on : ℕ → Option ℕ) (t : ℕ) → last_called on k e t ≡ on t

module _ (opts : Options) (sites : List Site) (j : Journal) (doors : Doors) (waits : Waiting) (events : List (List Event)) (standing : Standing) (marks ins : List Bool) (owners : List (Option ℕ)) (own : List ℕ) (h : Mirrors opts sites j doors waits events standing marks ins owners own) where
  -- the task inside goes into a queue
  module _ (e : Entry) (l : Legal e j) (g : Goes e.kind e) (runs : running e.proc j ≡ e.task ∷ []) (within : inside e.object j ≡ e.task ∷ []) (known : e.object < object_count j) (d : Door) (out : d.inside ≡ None) (at : IsDoor sites e.object (j ++ e ∷ []) d) (waits' : Waiting) (ws : WaitsAre (j ++ e ∷ []) waits') where
    goes_keeps : Keeps j e
    goes_keeps = record {
      clusters = g.clusters;
      no_cluster = g.cluster;
      no_processor = g.desk;
      no_place = g.stand;
      was = λ u m. ap (λ v. is_at (spot v j)) (eqb-true u e.task (sym (g.mover u) ∙ m)) ∙ ap is_at (first_at j h.sound (Running e.proc) e.task [] runs);
    }

    inside_mark : (x : Bool) → get_or ins e.object x ≡ calls_destructor e.object e.task j
    inside_mark x = h.marks_are.entered e.object e.task x (rw h.marks_are.objects known) within

    goes_mark : (x : Bool) (o : ℕ) → queued_at o (spot e.task (j ++ e ∷ [])) ≡ true → get_or ins e.object x ≡ calls_destructor o e.task (j ++ e ∷ [])
    goes_mark x o q =
        let e1 = spot_moves j e e.task (g.mover e.task ∙ self_test e.task) in
        let same : e.object ≡ o = eqb-true e.object o (sym (g.queued (noted_at j e) refl o) ∙ ap (queued_at o) (sym e1) ∙ q) in
        inside_mark x ∙ ap (λ v. calls_destructor v e.task j) same ∙ ap (is_member 0) (sym (last_all o j e g.last e.task))

    pub m_goes : (b x : Bool) → b ≡ get_or ins e.object x → Mirrors opts sites (j ++ e ∷ []) (with_door doors e.object d) waits' events (freed standing e.proc) (set marks e.task b) ins owners own
    m_goes b x was =
        with_parts opts sites j doors waits events standing marks ins owners own h e l g.spawn (with_door doors e.object d) waits' events (freed standing e.proc) (set marks e.task b) ins (doors_set sites j doors h.doors_are e g.make g.spawn d at) ws (events_silent j events e h.events_are g.spawn g.event)
        (clusters_by j e goes_keeps opts standing (freed standing e.proc) h.clusters_are (λ c. h.clusters_are.ready_are c ∙ sym (ready_stays j e (g.readies _) g.dispatches c)) (run_set j standing e None h.clusters_are.runs (run_processor opts sites j doors waits events standing marks ins owners own h e.proc e.task runs) (off_now j e e.task runs g.takes_off (g.puts_on _))) ((open_stays opts standing j e g.desk h.clusters_are.desks).1 e.proc None) refl refl)
        (marks_by j marks ins h.marks_are e g.make (set marks e.task b) ins (length-set marks e.task b) refl (marked_set j marks ins h.marks_are e g.make e.task b (λ u n. g.mover u ∙ flip e.task u false n) (λ o u n. last_all o j e g.last u) (λ o q. was ∙ goes_mark x o q)) (entered_same j marks ins h.marks_are e g.make (λ u i. absurd (nobody u (sym (ap option_to_list out) ∙ at.within ∙ i)))))
        (owners_silent j owners own h.owners_are e g.make g.owned g.owns)
      where
        nobody : (t : ℕ) → [] ≡ t ∷ [] → ⊥
        nobody t e = cc

  -- a task goes from a queue to the stack
  module _ (p u o : ℕ) (l : Legal (push p u o) j) (queued : queued_at o (spot u j) ≡ true) (d : Door) (at : IsDoor sites o (j ++ push p u o ∷ []) d) (was : inside o (j ++ push p u o ∷ []) ≡ inside o j) (waits' : Waiting) (ws : WaitsAre (j ++ push p u o ∷ []) waits') where
    pub m_push : Mirrors opts sites (j ++ push p u o ∷ []) (with_door doors o d) waits' events standing marks ins owners own
    m_push =
        let e = push p u o in
        let keeps : Keeps j e = record { clusters = λ on t. refl; no_cluster = refl; no_processor = refl; no_place = refl; was = λ t m. ap (λ v. is_at (spot v j)) (eqb-true t u m) ∙ queued_spot o (spot u j) queued } in
        with_parts opts sites j doors waits events standing marks ins owners own h e l refl (with_door doors o d) waits' events standing marks ins (doors_set sites j doors h.doors_are e refl refl d at) ws (events_silent j events e h.events_are refl refl)
        (clusters_by j e keeps opts standing standing h.clusters_are (λ c. h.clusters_are.ready_are c ∙ sym (ready_stays j e refl (λ t. refl) c)) (λ q. h.clusters_are.runs q ∙ sym (run_stays j e refl (λ t. refl) q)) (open_stays opts standing j e refl h.clusters_are.desks).0 refl refl)
        (marks_by j marks ins h.marks_are e refl marks ins refl refl (marked_same j marks ins h.marks_are e refl (λ on t. refl) (λ t v q. from_queue t v (t == u) refl q)) (entered_same j marks ins h.marks_are e refl (λ t g. (sym was ∙ g, last_all o j e (λ on v. refl) t))))
        (owners_silent j owners own h.owners_are e refl refl (λ t. refl))
      where
        from_queue : (t v : ℕ) (b : Bool) → (t == u) ≡ b → queued_at v (spot t (j ++ push p u o ∷ [])) ≡ true → queued_at v (spot t j) ≡ true
        from_queue t v false n q = ap (queued_at v) (sym (spot_stays j (push p u o) t n)) ∙ q
        from_queue t v true n q =
            let here : o ≡ v = eqb-true o v (ap (queued_at v) (sym (spot_moves j (push p u o) t n)) ∙ q) in
            ap (λ x. queued_at v (spot x j)) (eqb-true t u n) ∙ ap (λ x. queued_at x (spot u j)) (sym here) ∙ queued

  -- nothing moves
  pub m_unmoved : (e : Entry) → Legal e j → Calm e.kind e → is_still e.kind e ≡ true → tells e.kind ≡ false → e.object < object_count j → Mirrors opts sites (j ++ e ∷ []) doors waits events standing marks ins owners own
  m_unmoved e l q s n known =
      let lt : e.object < length doors.doors = rw h.doors_are.made known in
      let was = h.doors_are.each e.object lt in
      let now = still sites j (door_at doors e.object) e s was in
      m_calm opts sites j doors waits events standing marks ins owners own h e l q doors events (doors_same sites j doors h.doors_are e q.make q.spawn now) (events_silent j events e h.events_are q.spawn n) (λ t g. sym was.within ∙ now.within ∙ g)
