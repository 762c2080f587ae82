-- All parts with one entry more that touches clusters, processors, or where its task stands.
use Rattle.std.proofs.Common.{◌≡◌, ◌≢◌, ℕ, suc, pos, ◌==◌, ◌<◌, Bool, true, false, cond, List, [], ◌∷◌, ◌++◌, Option, Some, None, inl, inr, map, refl, sym, ap, ◌∙◌, subst, arith, length, length-append, length-set, get_or-set_same, get_or-set_other}
use Rattle.std.specs.Option.{is_some}
use Rattle.std.specs.List.{AllByRecursion}
use Rattle.std.proofs.lemmas.Bool.{eqb-true, eq-eqb, cases_lt}
use Rattle.std.proofs.lemmas.List.{get_or_past}
use Rattle.uc_tree.specs.declared.limits.TheConstants.{TASKS}
use Rattle.uc_tree.specs.Programs.{Site}
use Rattle.uc_entry.specs.declared.entry.Entry.{Entry}
use Rattle.uc_entry.specs.declared.entry.Options.{Options}
use Rattle.uc_entry.specs.declared.entry.EntryKind.{EntryKind}
use Rattle.uc_entry.specs.declared.entry.EntryKind.TheVariants as kind
use Rattle.uc_acts.specs.Journal.{Journal, owns, asking, Cost}
use Rattle.uc_acts.specs.Queues.{running, ready, cluster_of}
use Rattle.uc_acts.specs.Doors.{last_called}
use Rattle.uc_acts.specs.Known.{is_make, is_spawn, owned}
use Rattle.uc_acts.specs.Acts.{dispatch}
use Rattle.uc_acts.specs.Sound.{At, mover, spot, here}
use Rattle.uc_acts.specs.Stations.{Ready, times, one_if}
use Rattle.uc_acts.specs.Legal.{Legal}
use Rattle.uc_acts.proofs.Hush.{is_silent, door_silent}
use Rattle.uc_acts.proofs.Noted.{last_clusters_push}
use Rattle.uc_acts.proofs.SoundLemmas.{self_test}
use Rattle.uc_acts.proofs.Moves.{spot_stays, spot_moves, first_at, known_at}
use Rattle.uc_acts.proofs.Room.{in_none}
use Rattle.uc_mutex.specs.Doors.{Doors}
use Rattle.uc_condition.specs.Waiting.{Waiting}
use Rattle.uc_condition.specs.Laws.{is_silent as tells_no_wait}
use Rattle.uc_events.specs.Pending.{Event}
use Rattle.uc_events.specs.Laws.{tells}
use Rattle.uc_cluster.specs.Standing.{Standing, IsPlaced, IsUnready, queue_at, processor_at, place_of, with_processor, with_place, with_cluster, one_more_processor, closed, started, front_at, rest_of, made_ready, or_0}
use Rattle.uc_cluster.proofs.Desks.{open_stays, processor_more, closes_one, cluster_more}
use Rattle.uc_cluster.proofs.Places.{stands, migrates}
use Rattle.uc_cluster.proofs.Mirrors.{takes, starts}
use Rattle.uc_kernel_core.specs.Mirrors.{Mirrors, ClustersAre, queued_at, is_at}
use Rattle.uc_kernel_core.proofs.Doors.{no_both, doors_silent, waits_silent, events_silent, owners_silent}
use Rattle.uc_kernel_core.proofs.Clusters.{same_clusters, ready_stays, ready_back, run_stays, run_set, off_now}
use Rattle.uc_kernel_core.proofs.Marks.{last_all, marks_by, marked_same, entered_same}
use Rattle.uc_kernel_core.proofs.Steps.{with_parts, freed, run_pool, run_processor, run_unready}

-- the kinds of entries that touch clusters, processors, or where a task stands, and nothing else
abbrev pub is_desk : EntryKind → Bool
is_desk kind.Cluster = true
is_desk kind.Processor = true
is_desk kind.ProcessorEnd = true
is_desk kind.Migrate = true
is_desk kind.Dispatch = true
is_desk _ = false

-- what they leave alone
record Desk (k : EntryKind) (e : Entry) : Type 0 where
  make : is_make k ≡ false
  spawn : is_spawn k ≡ false
  door : is_silent k ≡ true
  wait : tells_no_wait k ≡ true
  event : tells k ≡ false
  owned : owned k e ≡ None
  owns : (t : ℕ) → owns t k e ≡ None
  last : (on : ℕ → Option ℕ) (t : ℕ) → last_called on k e t ≡ on t

desk_now : (k : EntryKind) (e : Entry) → is_desk k ≡ true → Desk k e
desk_now kind.Cluster e h = record { make = refl; spawn = refl; door = refl; wait = refl; event = refl; owned = refl; owns = λ t. refl; last = λ on t. refl }
desk_now kind.Processor e h = record { make = refl; spawn = refl; door = refl; wait = refl; event = refl; owned = refl; owns = λ t. refl; last = λ on t. refl }
desk_now kind.ProcessorEnd e h = record { make = refl; spawn = refl; door = refl; wait = refl; event = refl; owned = refl; owns = λ t. refl; last = λ on t. refl }
desk_now kind.Migrate e h = record { make = refl; spawn = refl; door = refl; wait = refl; event = refl; owned = refl; owns = λ t. refl; last = λ on t. refl }
desk_now kind.Dispatch e h = record { make = refl; spawn = refl; door = refl; wait = refl; event = refl; owned = refl; owns = λ t. refl; last = λ on t. refl }
desk_now k e h = cc

module _ (opts : Options) (sites : List Site) (j : Journal) (doors : Doors) (waits : Waiting) (events : List (List Event)) (standing : Standing) (marks ins : List Bool) (owners : List (Option ℕ)) (own : List ℕ) (h : Mirrors opts sites j doors waits events standing marks ins owners own) where
  -- with the clusters that it has then
  m_desk : (e : Entry) → Legal e j → is_desk e.kind ≡ true → ((t o : ℕ) → queued_at o (spot t (j ++ e ∷ [])) ≡ true → queued_at o (spot t j) ≡ true) → (w : Standing) → ClustersAre opts (j ++ e ∷ []) w → Mirrors opts sites (j ++ e ∷ []) doors waits events w marks ins owners own
  m_desk e l k q w c =
      let d = desk_now e.kind e k in
      with_parts opts sites j doors waits events standing marks ins owners own h e l d.spawn doors waits events w marks ins (doors_silent sites j doors h.doors_are e d.make d.door) (waits_silent j waits e h.waits_are d.make d.spawn d.wait) (events_silent j events e h.events_are d.spawn d.event) c
      (marks_by j marks ins h.marks_are e d.make marks ins refl refl (marked_same j marks ins h.marks_are e d.make d.last q) (entered_same j marks ins h.marks_are e d.make (λ t g. (sym (door_silent e.object j e d.door).inside ∙ g, last_all e.object j e d.last t))))
      (owners_silent j owners own h.owners_are e d.make d.owned d.owns)

  -- an entry that moves nobody
  module _ (e : Entry) (m : (t : ℕ) → mover e.kind e t ≡ false) where
    stays_queued : (t o : ℕ) → queued_at o (spot t (j ++ e ∷ [])) ≡ true → queued_at o (spot t j) ≡ true
    stays_queued t o g = ap (queued_at o) (sym (spot_stays j e t (m t))) ∙ g

    stays_at : (t : ℕ) → is_at (spot t (j ++ e ∷ [])) ≡ true → is_at (spot t j) ≡ true
    stays_at t g = ap is_at (sym (spot_stays j e t (m t))) ∙ g

  -- one cluster more
  pub m_cluster : (p t : ℕ) (k : Cost) (n : ℕ) → let e = asking kind.Cluster p t k 0 (pos n) (pos 0) in Legal e j → Mirrors opts sites (j ++ e ∷ []) doors waits events (with_cluster standing) marks ins owners own
  m_cluster p t k n l =
      let e = asking kind.Cluster p t k 0 (pos n) (pos 0) in
      let c = h.clusters_are in
      let more = cluster_more standing j p t k n c.ready_are c.counted in
      let same : (u : ℕ) → cluster_of u (j ++ e ∷ []) ≡ cluster_of u j = λ u. ap (λ f. f u) (last_clusters_push (λ x. 0) j e) in
      let old = stands standing j e refl c.stands in
      m_desk e l refl (stays_queued e (λ u. refl)) (with_cluster standing) (record {
        ready_are = more.0;
        runs = λ q. c.runs q ∙ sym (run_stays j e refl (λ u. refl) q);
        counted = more.1;
        desks = (open_stays opts standing j e refl c.desks).0;
        stands = record { on = old.on; cluster = old.cluster };
        pool = c.pool;
        placed = λ u a. c.placed u (stays_at e (λ x. refl) u a) ∙ ap Some (sym (same u));
        known = λ u.
            let lt = c.known u in
            rw (same u, length-append standing.queues ([] ∷ [])) (omega arith);
      })

  -- one processor more
  pub m_processor : (p t : ℕ) (k : Cost) (n c : ℕ) → n ≡ length standing.processors → let e = asking kind.Processor p t k 0 (pos n) (pos c) in Legal e j → Mirrors opts sites (j ++ e ∷ []) doors waits events (one_more_processor c standing) marks ins owners own
  m_processor p t k n c is l =
      subst (λ m. Mirrors opts sites (j ++ asking kind.Processor p t k 0 (pos m) (pos c) ∷ []) doors waits events (one_more_processor c standing) marks ins owners own) (sym is) (at_length (subst (λ m. Legal (asking kind.Processor p t k 0 (pos m) (pos c)) j) is l))
    where
      at_length : Legal (asking kind.Processor p t k 0 (pos (length standing.processors)) (pos c)) j → Mirrors opts sites (j ++ asking kind.Processor p t k 0 (pos (length standing.processors)) (pos c) ∷ []) doors waits events (one_more_processor c standing) marks ins owners own
      at_length l =
          let e = asking kind.Processor p t k 0 (pos (length standing.processors)) (pos c) in
          let a = h.clusters_are in
          let more = processor_more opts standing j p t k c a.desks a.runs in
          let same : (u : ℕ) → cluster_of u (j ++ e ∷ []) ≡ cluster_of u j = λ u. ap (λ f. f u) (last_clusters_push (λ x. 0) j e) in
          let old = stands standing j e refl a.stands in
          m_desk e l refl (stays_queued e (λ u. refl)) (one_more_processor c standing) (record {
            ready_are = λ q. a.ready_are q ∙ sym (ready_stays j e refl (λ u. refl) q);
            runs = more.1;
            counted = a.counted ∙ sym (same_clusters j e refl);
            desks = more.0;
            stands = record { on = old.on; cluster = old.cluster };
            pool = a.pool;
            placed = λ u g. a.placed u (stays_at e (λ x. refl) u g) ∙ ap Some (sym (same u));
            known = λ u. rw (same u) (a.known u);
          })

  -- a processor is closed
  pub m_processor_end : (p t : ℕ) (k : Cost) (q c : ℕ) → q < length standing.processors → let e = asking kind.ProcessorEnd p t k 0 (pos q) (pos c) in Legal e j → Mirrors opts sites (j ++ e ∷ []) doors waits events (with_processor standing q (closed (processor_at standing q))) marks ins owners own
  m_processor_end p t k q c lt l =
      let e = asking kind.ProcessorEnd p t k 0 (pos q) (pos c) in
      let a = h.clusters_are in
      let more = closes_one opts standing j p t k q c lt a.desks a.runs in
      let same : (u : ℕ) → cluster_of u (j ++ e ∷ []) ≡ cluster_of u j = λ u. ap (λ f. f u) (last_clusters_push (λ x. 0) j e) in
      let old = stands standing j e refl a.stands in
      m_desk e l refl (stays_queued e (λ u. refl)) (with_processor standing q (closed (processor_at standing q))) (record {
        ready_are = λ r. a.ready_are r ∙ sym (ready_stays j e refl (λ u. refl) r);
        runs = more.1;
        counted = a.counted ∙ sym (same_clusters j e refl);
        desks = more.0;
        stands = record { on = old.on; cluster = old.cluster };
        pool = a.pool;
        placed = λ u g. a.placed u (stays_at e (λ x. refl) u g) ∙ ap Some (sym (same u));
        known = λ u. rw (same u) (a.known u);
      })

  -- a task migrates
  module _ (p t : ℕ) (k : Cost) (c : ℕ) (r : running p j ≡ t ∷ []) (lt : c < length standing.queues) where
    pub migrate_placed : IsPlaced t (with_place (freed standing p) t (Some c))
    migrate_placed =
        let at = get_or-set_same standing.places t (Some c) None (run_pool opts sites j doors waits events standing marks ins owners own h p t r) in
        (ap is_some at, rw (ap or_0 at) lt)

    pub migrate_pool : t < length (with_place (freed standing p) t (Some c)).places
    migrate_pool = rw (length-set standing.places t (Some c)) (run_pool opts sites j doors waits events standing marks ins owners own h p t r)

    pub migrate_unready : IsUnready t (with_place (freed standing p) t (Some c))
    migrate_unready q g = run_unready opts sites j doors waits events standing marks ins owners own h p t r q g

    pub m_migrate : let e = asking kind.Migrate p t k 0 (pos c) (pos 0) in Legal e j → Mirrors opts sites (j ++ e ∷ []) doors waits events (made_ready t (with_place (freed standing p) t (Some c))) marks ins owners own
    m_migrate l =
        let e = asking kind.Migrate p t k 0 (pos c) (pos 0) in
        let a = h.clusters_are in
        let v = with_place (freed standing p) t (Some c) in
        let pool = run_pool opts sites j doors waits events standing marks ins owners own h p t r in
        let at = get_or-set_same standing.places t (Some c) None pool in
        let on = migrates standing j p t k c pool a.stands in
        m_desk e l refl queued (made_ready t v) (record {
          ready_are = ready_back j v e t a.ready_are refl (λ u. refl) (at ∙ ap Some (sym (mine (t == t) (self_test t)))) (rw (mine (t == t) (self_test t)) lt);
          runs = run_set j standing e None a.runs (run_processor opts sites j doors waits events standing marks ins owners own h p t r) (off_now j e t r (self_test t) refl);
          counted = length-set standing.queues (or_0 (place_of v t)) (queue_at standing.queues (or_0 (place_of v t)) ++ t ∷ []) ∙ a.counted ∙ sym (same_clusters j e refl);
          desks = (open_stays opts standing j e refl a.desks).1 p None;
          stands = record { on = on.on; cluster = on.cluster };
          pool = length-set standing.places t (Some c) ∙ a.pool;
          placed = λ u g. place_by u (u == t) refl g;
          known = λ u. rw (length-set standing.queues (or_0 (place_of v t)) (queue_at standing.queues (or_0 (place_of v t)) ++ t ∷ [])) (known_by u (u == t) refl);
        })
      where
        now : (u : ℕ) → cluster_of u (j ++ asking kind.Migrate p t k 0 (pos c) (pos 0) ∷ []) ≡ cond (u == t) c (cluster_of u j)
        now u = ap (λ f. f u) (last_clusters_push (λ x. 0) j (asking kind.Migrate p t k 0 (pos c) (pos 0)))

        mine : (b : Bool) → b ≡ true → cluster_of t (j ++ asking kind.Migrate p t k 0 (pos c) (pos 0) ∷ []) ≡ c
        mine b s = now t ∙ ap (λ x. cond x c (cluster_of t j)) (self_test t)

        known_by : (u : ℕ) (b : Bool) → (u == t) ≡ b → cluster_of u (j ++ asking kind.Migrate p t k 0 (pos c) (pos 0) ∷ []) < length standing.queues
        known_by u true s = rw (now u ∙ ap (λ x. cond x c (cluster_of u j)) s) lt
        known_by u false s = rw (now u ∙ ap (λ x. cond x c (cluster_of u j)) s) (h.clusters_are.known u)

        place_by : (u : ℕ) (b : Bool) → (u == t) ≡ b → is_at (spot u (j ++ asking kind.Migrate p t k 0 (pos c) (pos 0) ∷ [])) ≡ true → place_of (with_place (freed standing p) t (Some c)) u ≡ Some (cluster_of u (j ++ asking kind.Migrate p t k 0 (pos c) (pos 0) ∷ []))
        place_by u true s g =
            let same = eqb-true u t s in
            ap (λ x. place_of (with_place (freed standing p) t (Some c)) x) same ∙ get_or-set_same standing.places t (Some c) None (run_pool opts sites j doors waits events standing marks ins owners own h p t r) ∙ ap Some (sym (now u ∙ ap (λ x. cond x c (cluster_of u j)) s))
        place_by u false s g =
            get_or-set_other standing.places t u (Some c) None (λ x. no_both (u == t) (eq-eqb u t x) s) ∙ h.clusters_are.placed u (ap is_at (sym (spot_stays j (asking kind.Migrate p t k 0 (pos c) (pos 0)) u s)) ∙ g) ∙ ap Some (sym (now u ∙ ap (λ x. cond x c (cluster_of u j)) s))

        queued : (u o : ℕ) → queued_at o (spot u (j ++ asking kind.Migrate p t k 0 (pos c) (pos 0) ∷ [])) ≡ true → queued_at o (spot u j) ≡ true
        queued u o g = by (u == t) refl
          where
            clash : false ≡ true → ⊥
            clash e = cc

            by : (b : Bool) → (u == t) ≡ b → queued_at o (spot u j) ≡ true
            by false n = ap (queued_at o) (sym (spot_stays j (asking kind.Migrate p t k 0 (pos c) (pos 0)) u n)) ∙ g
            by true n = absurd (clash (sym (ap (queued_at o) (spot_moves j (asking kind.Migrate p t k 0 (pos c) (pos 0)) u n)) ∙ g))

  -- a processor is given the front of its cluster's queue
  module _ (p t : ℕ) (rest : List ℕ) (front : queue_at standing.queues (processor_at standing p).cluster ≡ t ∷ rest) where
    given_cluster : (processor_at standing p).cluster < length standing.queues
    given_cluster = elim (cases_lt (processor_at standing p).cluster (length standing.queues)) [
      | inl lt ↦ lt
      | inr le ↦ absurd (clash (sym (get_or_past standing.queues (processor_at standing p).cluster [] le) ∙ front))
    ]
      where
        clash : [] ≡ t ∷ rest → ⊥
        clash e = cc

    pub given_at : spot t j ≡ At (Ready (processor_at standing p).cluster)
    given_at = first_at j h.sound (Ready (processor_at standing p).cluster) t rest (sym (h.clusters_are.ready_are (processor_at standing p).cluster) ∙ front)

    pub given_known : t < TASKS
    given_known =
        let k = known_at j h.sound t (Ready (processor_at standing p).cluster) given_at in
        let few = h.few in
        omega arith

    given_unready : IsUnready t (started standing p)
    given_unready q lt = by ((processor_at standing p).cluster == q) refl
      where
        seats : times t (t ∷ rest) ≡ 1
        seats =
            sym (ap (times t) (sym (h.clusters_are.ready_are (processor_at standing p).cluster) ∙ front)) ∙ h.sound.seats t (Ready (processor_at standing p).cluster) ∙ ap (here (Ready (processor_at standing p).cluster)) given_at ∙ ap one_if (self_test (processor_at standing p).cluster)

        none_left : (xs : List ℕ) → times t (t ∷ xs) ≡ 1 → times t xs ≡ 0
        none_left xs e =
            let s = self_test t in
            let f : times t (t ∷ xs) ≡ suc (times t xs) = simp s in
            omega (arith, f, e)

        same : (xs : List ℕ) → map (λ u. u) xs ≡ xs
        same [] = refl
        same (x ∷ xs) = ap (λ l. x ∷ l) (same xs)

        by : (b : Bool) → ((processor_at standing p).cluster == q) ≡ b → AllByRecursion (λ u. u ≢ t) (queue_at (started standing p).queues q)
        by true s =
            let is = eqb-true (processor_at standing p).cluster q s in
            let now : queue_at (started standing p).queues q ≡ rest = ap (λ x. queue_at (started standing p).queues x) (sym is) ∙ get_or-set_same standing.queues (processor_at standing p).cluster (rest_of (queue_at standing.queues (processor_at standing p).cluster)) [] given_cluster ∙ ap rest_of front in
            subst (AllByRecursion (λ u. u ≢ t)) (sym now) (in_none (λ u. u) t rest (ap (times t) (same rest) ∙ none_left rest seats))
        by false s =
            let now : queue_at (started standing p).queues q ≡ ready q j = get_or-set_other standing.queues (processor_at standing p).cluster q (rest_of (queue_at standing.queues (processor_at standing p).cluster)) [] (λ x. no_both ((processor_at standing p).cluster == q) (eq-eqb (processor_at standing p).cluster q (sym x)) s) ∙ h.clusters_are.ready_are q in
            subst (AllByRecursion (λ u. u ≢ t)) (sym now) (in_none (λ u. u) t (ready q j) (ap (times t) (same (ready q j)) ∙ h.sound.seats t (Ready q) ∙ ap (here (Ready q)) given_at ∙ ap one_if s))

    pub m_dispatch : p < length standing.processors → Legal (dispatch p t) j → Mirrors opts sites (j ++ dispatch p t ∷ []) doors waits events (started standing p) marks ins owners own
    m_dispatch lt l =
        let e = dispatch p t in
        let a = h.clusters_are in
        let same : (u : ℕ) → cluster_of u (j ++ e ∷ []) ≡ cluster_of u j = λ u. ap (λ f. f u) (last_clusters_push (λ x. 0) j e) in
        let old = stands standing j e refl a.stands in
        let size = length-set standing.queues (processor_at standing p).cluster (rest_of (queue_at standing.queues (processor_at standing p).cluster)) in
        m_desk e l refl queued (started standing p) (record {
          ready_are = takes standing j p t rest front given_cluster given_unready a.ready_are;
          runs = starts standing j p t rest front lt a.runs;
          counted = size ∙ a.counted ∙ sym (same_clusters j e refl);
          desks = (open_stays opts standing j e refl a.desks).1 p (Some (front_at standing p));
          stands = record { on = old.on; cluster = old.cluster };
          pool = a.pool;
          placed = λ u g. a.placed u (was_at u (u == t) refl g) ∙ ap Some (sym (same u));
          known = λ u. rw (same u, size) (a.known u);
        })
      where
        clash : false ≡ true → ⊥
        clash e = cc

        was_at : (u : ℕ) (b : Bool) → (u == t) ≡ b → is_at (spot u (j ++ dispatch p t ∷ [])) ≡ true → is_at (spot u j) ≡ true
        was_at u true s g = ap (λ x. is_at (spot x j)) (eqb-true u t s) ∙ ap is_at given_at
        was_at u false s g = ap is_at (sym (spot_stays j (dispatch p t) u s)) ∙ g

        queued : (u o : ℕ) → queued_at o (spot u (j ++ dispatch p t ∷ [])) ≡ true → queued_at o (spot u j) ≡ true
        queued u o g = by (u == t) refl
          where
            by : (b : Bool) → (u == t) ≡ b → queued_at o (spot u j) ≡ true
            by false n = ap (queued_at o) (sym (spot_stays j (dispatch p t) u n)) ∙ g
            by true n = absurd (clash (sym (ap (queued_at o) (spot_moves j (dispatch p t) u n)) ∙ g))
