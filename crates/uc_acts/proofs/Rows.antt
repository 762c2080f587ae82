-- The entries of each row are legal, one after the other.
use Rattle.std.proofs.Common.{◌≡◌, ◌≢◌, ℕ, ℤ, zero, suc, ◌==◌, ◌+◌, ◌<◌, ◌&&◌, Bool, true, false, not, List, [], ◌∷◌, ◌++◌, Option, Some, None, map, take, refl, sym, ap, ◌∙◌, arith, length}
use Rattle.std.specs.Prelude.{pos, nat_lt}
use Rattle.std.specs.List.{filter}
use Rattle.std.proofs.lemmas.Bool.{eqb-true, and_right}
use Rattle.uc_tree.specs.Programs.{Site}
use Rattle.uc_entry.specs.declared.entry.Entry.{Entry}
use Rattle.uc_entry.specs.declared.entry.Options.{Options}
use Rattle.uc_entry.specs.declared.entry.EntryKind.TheVariants as kind
use Rattle.uc_entry.specs.declared.request.Request.{Request}
use Rattle.uc_entry.specs.declared.request.Request.TheVariants as ask
use Rattle.uc_entry.specs.declared.request.Piece.{Piece}
use Rattle.uc_acts.specs.Journal.{Journal, inside, own_object, first_or_0, Cost, no_cost, asking}
use Rattle.uc_acts.specs.Queues.{running, waiting, stacked, successor, next, cluster_count, processor_count, is_in_use}
use Rattle.uc_acts.specs.Doors.{site_at, open_at, offers, offered, blocked}
use Rattle.uc_tree.specs.SiteOffers.{clause_for, met, Met}
use Rattle.uc_acts.specs.Known.{object_count, task_count, owner}
use Rattle.uc_acts.specs.Pending.{pending, oldest_in}
use Rattle.uc_acts.specs.Stations.{Station, Running, Waits, Stacked, Blocked}
use Rattle.uc_acts.specs.KernelRuns.{Fits, IsAt}
use Rattle.uc_acts.specs.Acts.{admit, push, fault, admission, clause_by_way, met_by, called, took, accepted, accept_entry, signalled, handed, front, poll_entry, prints, or_fault, left_by, row, raise_entry, admit_failed, failed_by_way, truth}
use Rattle.uc_tree.specs.declared.limits.TheConstants.{OBJECTS, TASKS, PENDING_EVENTS, CLUSTERS, PROCESSORS}
use Rattle.uc_acts.specs.Sound.{At, Sound, here, mover, spot}
use Rattle.uc_acts.specs.Legal.{DoorFit, IsFree, IsNext, Legal, removes}
use Rattle.uc_acts.proofs.Seats.{inside_after}
use Rattle.uc_acts.proofs.SoundLemmas.{self_test, objects_push, tasks_push, nothing_open, all_kept_nil, none_kept}
use Rattle.uc_acts.proofs.Moves.{counted_at, first_at, known_at, apart, met_counts, from_run, from_waits, from_stacked, from_blocked, legal_still, legal_one, more_objects, more_tasks, object_0, one_inside, inside_now, open_now, spot_stays, spot_moves}

-- each entry is legal where it stands
abbrev pub Lawful : Journal → List Entry → Type 0
Lawful j [] = Unit {0}
Lawful j (e ∷ a) = Legal e j × Lawful (j ++ e ∷ []) a

pub legal_fault : (i : Journal) (p t : ℕ) (k : Cost) (n line : ℕ) → Legal (fault p t k n line) i
legal_fault i p t k n line =
    legal_still (fault p t k n line) i (λ u. refl) tt tt (object_0 i (fault p t k n line)) tt

pub legal_admit : (i : Journal) (p u o way clause : ℕ) (failed : Bool) → inside o i ≡ [] → o < object_count i → u < task_count i → ((r : Station) → removes r kind.Admit (admit_failed p u o way clause failed) ≡ false → here r (spot u i) ≡ 0) → Legal (admit_failed p u o way clause failed) i
legal_admit i p u o way clause failed empty made known from =
    let e = admit_failed p u o way clause failed in
    legal_one e i u (λ t h. eqb-true t u h) from (more_tasks i e u known) tt tt (more_objects i e o made) empty

pub legal_push : (i : Journal) (p u o : ℕ) → open_at o i ≡ [] → o < object_count i → u < task_count i → ((r : Station) → removes r kind.Push (push p u o) ≡ false → here r (spot u i) ≡ 0) → Legal (push p u o) i
legal_push i p u o shut made known from =
    let e = push p u o in
    legal_one e i u (λ t h. eqb-true t u h) from (more_tasks i e u known) tt tt (more_objects i e o made) shut

lawful_prints : (i : Journal) (p t : ℕ) (k : Cost) (items : List Piece) → Lawful i (prints p t k items)
lawful_prints i p t k [] = tt
lawful_prints i p t k (x ∷ items) =
    let e = asking kind.Print p t k 0 (pos x.form) x.value in
    (legal_still e i (λ u. refl) tt tt (object_0 i e) tt, lawful_prints (i ++ e ∷ []) p t no_cost items)

and_first : (a b : Bool) → (a && b) ≡ true → a ≡ true
and_first true b h = refl
and_first false b h = cc

and_none : (a b : Bool) → a ≡ false → (a && b) ≡ false
and_none a b h = rw h

module _ (opts : Options) (sites : List Site) (input : List ℕ) (j : Journal) (p t : ℕ) (k : Cost) (line : ℕ) (s : Sound j) (runs : running p j ≡ t ∷ []) where
  pub at_run : spot t j ≡ At (Running p)
  at_run = first_at j s (Running p) t [] runs

  pub known_run : t < task_count j
  known_run = known_at j s t (Running p) at_run

  -- the acting task is moved
  legal_own : (e : Entry) → ((u : ℕ) → mover e.kind e u ≡ true → u ≡ t) → ((q : ℕ) → removes (Running q) e.kind e ≡ (p == q)) → IsFree e.kind e j → IsNext e.kind e j → e.object < object_count (j ++ e ∷ []) → DoorFit e.kind e (inside e.object j) (open_at e.object j) → Legal e j
  legal_own e only at free next made door =
      legal_one e j t only (from_run e (spot t j) p at at_run) (more_tasks j e t known_run) free next made door

  -- those in other queues stay where they are
  pub others_stay : (e : Entry) (u : ℕ) (q : Station) → ((v : ℕ) → mover e.kind e v ≡ true → v ≡ t) → spot u j ≡ At q → At q ≢ At (Running p) → spot u (j ++ e ∷ []) ≡ At q
  others_stay e u q only at n =
      spot_stays j e u (still (mover e.kind e u) refl) ∙ at
    where
      still : (b : Bool) → mover e.kind e u ≡ b → mover e.kind e u ≡ false
      still false h = h
      still true h = absurd (n (sym at ∙ ap (λ v. spot v j) (only u h) ∙ at_run))

  -- t goes out of an object, and whoever is next comes in
  module _ (e : Entry) (l : Legal e j) (out : inside e.object (j ++ e ∷ []) ≡ []) (made : e.object < object_count j) (only : (v : ℕ) → mover e.kind e v ≡ true → v ≡ t) where
    lawful_next : (ss : List ℕ) (ws : List (ℕ × ℕ)) → stacked e.object j ≡ ss → waiting e.object j ≡ ws → Lawful (j ++ e ∷ []) (admission sites p e.object (j ++ e ∷ []) (successor ss ws))
    lawful_next [] [] a b = tt
    lawful_next [] (w ∷ ws) a b =
        let at = first_at j s (Waits e.object) w.0 (map (λ x. x.0) ws) (ap (map (λ x. x.0)) b) in
        let now = others_stay e w.0 (Waits e.object) only at (λ f. cc) in
        let i = j ++ e ∷ [] in
        let x = admit_failed p w.0 e.object 2 (clause_by_way sites e.object i (w.0, 2)) (failed_by_way sites e.object i (w.0, 2)) in
        (legal_admit i p w.0 e.object 2 (clause_by_way sites e.object i (w.0, 2)) (failed_by_way sites e.object i (w.0, 2)) out (more_objects j e e.object made) (more_tasks j e w.0 (known_at j s w.0 (Waits e.object) at)) (from_waits x (spot w.0 (j ++ e ∷ [])) e.object (λ v. refl) now), tt)
    lawful_next (u ∷ us) ws a b =
        let at = first_at j s (Stacked e.object) u us a in
        let now = others_stay e u (Stacked e.object) only at (λ f. cc) in
        let i = j ++ e ∷ [] in
        let x = admit_failed p u e.object 3 (clause_by_way sites e.object i (u, 3)) (failed_by_way sites e.object i (u, 3)) in
        (legal_admit i p u e.object 3 (clause_by_way sites e.object i (u, 3)) (failed_by_way sites e.object i (u, 3)) out (more_objects j e e.object made) (more_tasks j e u (known_at j s u (Stacked e.object) at)) (from_stacked x (spot u (j ++ e ∷ [])) e.object (λ v. refl) now), tt)

    lawful_left : Lawful j (left_by sites j p e.object e)
    lawful_left = (l, lawful_next (stacked e.object j) (waiting e.object j) refl refl)

  -- the last of t at an object that it is inside
  pub out_of : (e : Entry) → inside e.object j ≡ t ∷ [] → ((xs : List ℕ) → inside_after e.kind e xs ≡ filter (λ x. not (x == t)) xs ++ []) → inside e.object (j ++ e ∷ []) ≡ []
  out_of e i h =
      let self = self_test t in
      inside_now j e ∙ h (inside e.object j) ∙ ap (λ l. filter (λ x. not (x == t)) l ++ []) i ∙ simp self

  row_leaves : (e : Entry) (o : ℕ) → e.object ≡ o → IsAt t o j → (inside e.object j ≡ t ∷ [])
  row_leaves e o h at = ap (λ v. inside v j) h ∙ one_inside j o t s at.inside

  lawful_or : (b : Bool) (e : Entry) (n : ℕ) → Legal e j → Lawful j (or_fault b e (fault p t k n line))
  lawful_or true e n l = (l, tt)
  lawful_or false e n l = (legal_fault j p t k n line, tt)

  -- a call
  module _ (o m : ℕ) (made : o < object_count j) where
    pub inside_called : inside o (j ++ asking kind.Call p t k o (pos m) (pos 0) ∷ []) ≡ inside o j
    inside_called = inside_now j (asking kind.Call p t k o (pos m) (pos 0)) ∙ all_kept_nil (inside o j)

    pub open_called : open_at o (j ++ asking kind.Call p t k o (pos m) (pos 0) ∷ []) ≡ open_at o j
    open_called = open_now j (asking kind.Call p t k o (pos m) (pos 0)) ∙ all_kept_nil (open_at o j)

    pub spot_called : spot t (j ++ asking kind.Call p t k o (pos m) (pos 0) ∷ []) ≡ At (Waits o)
    spot_called = spot_moves j (asking kind.Call p t k o (pos m) (pos 0)) t (self_test t)

    -- the caller comes in
    legal_in : (way : ℕ) → inside o j ≡ [] → Legal (admit p t o way 0) (j ++ asking kind.Call p t k o (pos m) (pos 0) ∷ [])
    legal_in way empty =
        let e = asking kind.Call p t k o (pos m) (pos 0) in
        legal_admit (j ++ e ∷ []) p t o way 0 false (inside_called ∙ empty) (more_objects j e o made) (more_tasks j e t known_run) (from_waits (admit p t o way 0) (spot t (j ++ e ∷ [])) o (λ v. refl) spot_called)

    lawful_met : (m' : ℕ) (a : Entry) (rest : List Entry) (c : Option ℕ) → open_at o j ≡ a ∷ rest → Lawful (j ++ asking kind.Call p t k o (pos m) (pos 0) ∷ []) (met_by p t o a.task m' c)
    lawful_met m' a rest None h = tt
    lawful_met (suc m') a rest (Some c) h = (legal_in 1 ((s.doors o).top a rest h), tt)
    lawful_met zero a rest (Some c) h =
        let e = asking kind.Call p t k o (pos m) (pos 0) in
        let i = j ++ e ∷ [] in
        let up = (s.doors o).acceptor a rest h in
        let at = first_at j s (Stacked o) a.task up.below up.top in
        let now = others_stay e a.task (Stacked o) (λ v g. eqb-true v t g) at (λ f. cc) in
        let x = admit p a.task o 3 c in
        let in_made = more_objects j e o made in
        let known = more_tasks j e t known_run in
        let two : (t == a.task) ≡ false = apart i t a.task (At (Waits o)) (At (Stacked o)) spot_called now (λ f. cc) in
        let still : spot t (i ++ x ∷ []) ≡ At (Waits o) = spot_stays i x t two ∙ spot_called in
        (legal_admit i p a.task o 3 c false (inside_called ∙ (s.doors o).top a rest h) in_made (more_tasks j e a.task (known_at j s a.task (Stacked o) at)) (from_stacked x (spot a.task i) o (λ v. refl) now), (legal_push (i ++ x ∷ []) p t o (open_now i x ∙ none_kept (open_at o i)) (more_objects i x o in_made) (more_tasks i x t known) (from_waits (push p t o) (spot t (i ++ x ∷ [])) o (λ v. refl) still), tt))

    lawful_called : (within : List ℕ) (opened : List Entry) → inside o j ≡ within → open_at o j ≡ opened → Lawful (j ++ asking kind.Call p t k o (pos m) (pos 0) ∷ []) (called sites p t o m within opened)
    lawful_called [] [] a b = (legal_in 0 a, tt)
    lawful_called (x ∷ xs) [] a b = tt
    lawful_called [] (x ∷ rest) a b = lawful_met m x rest (clause_for (offered sites x) m) b
    lawful_called (y ∷ ys) (x ∷ rest) a b = lawful_met m x rest (clause_for (offered sites x) m) b

  -- an accept, a signal
  module _ (o : ℕ) (i : inside o j ≡ t ∷ []) (made : o < object_count j) where
    pub shut_here : open_at o j ≡ []
    shut_here = nothing_open (inside o j) (open_at o j) (stacked o j) t (s.doors o) i

    lawful_accepted_by : (site mask : ℕ) (b : Bool) (member u : ℕ) → spot u j ≡ At (Waits o) → Lawful j (took p t k o site mask b member u)
    lawful_accepted_by site mask b zero u at =
        let e = accept_entry p t k o site mask b 3 in
        let still : (v : ℕ) → ((v == t) && false) ≡ false = λ v. and_right (v == t) false refl in
        let now : spot u (j ++ e ∷ []) ≡ At (Waits o) = spot_stays j e u (still u) ∙ at in
        (legal_still e j still tt tt (more_objects j e o made) i, (legal_push (j ++ e ∷ []) p u o (open_now j e ∙ all_kept_nil (open_at o j) ∙ shut_here) (more_objects j e o made) (more_tasks j e u (known_at j s u (Waits o) at)) (from_waits (push p u o) (spot u (j ++ e ∷ [])) o (λ v. refl) now), tt))
    lawful_accepted_by site mask b (suc member) u at =
        let e = accept_entry p t k o site mask b 1 in
        let only : (v : ℕ) → ((v == t) && true) ≡ true → v ≡ t = λ v h. eqb-true v t (and_first (v == t) true h) in
        let now : spot u (j ++ e ∷ []) ≡ At (Waits o) = others_stay e u (Waits o) only at (λ f. cc) in
        let self = self_test t in
        let out : inside o (j ++ e ∷ []) ≡ [] = inside_now j e ∙ ap (inside_after kind.Accept e) i ∙ simp self in
        (legal_own e only (λ q. refl) tt tt (more_objects j e o made) i, (legal_admit (j ++ e ∷ []) p u o 1 0 false out (more_objects j e o made) (more_tasks j e u (known_at j s u (Waits o) at)) (from_waits (admit p u o 1 0) (spot u (j ++ e ∷ [])) o (λ v. refl) now), tt))

    lawful_accepted : (site mask : ℕ) (x : Option Met) (b : Bool) → met (offers sites site mask) (waiting o j) ≡ x → Lawful j (accepted p t k o site mask b x)
    lawful_accepted site mask None true h =
        let e = accept_entry p t k o site mask true 2 in
        (legal_still e j (λ v. and_right (v == t) false refl) tt tt (more_objects j e o made) i, tt)
    lawful_accepted site mask None false h =
        let e = accept_entry p t k o site mask false 0 in
        (legal_own e (λ v h. eqb-true v t (and_first (v == t) true h)) (λ q. refl) tt tt (more_objects j e o made) i, tt)
    lawful_accepted site mask (Some x) b h =
        let c = met_counts (offers sites site mask) (waiting o j) x h in
        lawful_accepted_by site mask b x.member x.task (counted_at j s (Waits o) x.task c.0 c.1)

    lawful_signalled : (c : ℕ) (ws : List (ℕ × ℤ)) → blocked o c j ≡ ws → Lawful j (signalled p t k o c ws)
    lawful_signalled c [] h =
        let e = asking kind.Signal p t k o (pos c) (pos 0) in
        (legal_still e j (λ u. refl) tt tt (more_objects j e o made) tt, tt)
    lawful_signalled c (w ∷ ws) h =
        let e = asking kind.Signal p t k o (pos c) (pos 1) in
        let at = first_at j s (Blocked o c) w.0 (map (λ x. x.0) ws) (ap (map (λ x. x.0)) h) in
        let now : spot w.0 (j ++ e ∷ []) ≡ At (Blocked o c) = spot_stays j e w.0 refl ∙ at in
        (legal_still e j (λ u. refl) tt tt (more_objects j e o made) tt, (legal_push (j ++ e ∷ []) p w.0 o (open_now j e ∙ all_kept_nil (open_at o j) ∙ shut_here) (more_objects j e o made) (more_tasks j e w.0 (known_at j s w.0 (Blocked o c) at)) (from_blocked (push p w.0 o) (spot w.0 (j ++ e ∷ [])) o c (λ v d. refl) now), tt))

    lawful_handed : (c : ℕ) (ws : List (ℕ × ℤ)) → blocked o c j ≡ ws → Lawful j (handed p t k o c ws)
    lawful_handed c [] h =
        let e = asking kind.SignalBlock p t k o (pos c) (pos 0) in
        (legal_still e j (λ v. and_right (v == t) false refl) tt tt (more_objects j e o made) i, tt)
    lawful_handed c (w ∷ ws) h =
        let e = asking kind.SignalBlock p t k o (pos c) (pos 1) in
        let at = first_at j s (Blocked o c) w.0 (map (λ x. x.0) ws) (ap (map (λ x. x.0)) h) in
        let only : (v : ℕ) → ((v == t) && true) ≡ true → v ≡ t = λ v h. eqb-true v t (and_first (v == t) true h) in
        let now : spot w.0 (j ++ e ∷ []) ≡ At (Blocked o c) = others_stay e w.0 (Blocked o c) only at (λ f. cc) in
        let self = self_test t in
        let out : inside o (j ++ e ∷ []) ≡ [] = inside_now j e ∙ ap (inside_after kind.SignalBlock e) i ∙ simp self in
        (legal_own e only (λ q. refl) tt tt (more_objects j e o made) i, (legal_admit (j ++ e ∷ []) p w.0 o 4 0 false out (more_objects j e o made) (more_tasks j e w.0 (known_at j s w.0 (Blocked o c) at)) (from_blocked (admit p w.0 o 4 0) (spot w.0 (j ++ e ∷ [])) o c (λ v d. refl) now), tt))

  pub row_lawful : (r : Request) → Fits opts sites j t r → Lawful j (row opts sites input j p t k line r)
  row_lawful (ask.Make class) f = by (nat_lt (object_count j) OBJECTS)
    where
      by : (b : Bool) → Lawful j (or_fault b (asking kind.Make p t k (object_count j) (pos class) (pos 0)) (fault p t k 16 line))
      by true =
          let grows : object_count (j ++ asking kind.Make p t k (object_count j) (pos class) (pos 0) ∷ []) ≡ object_count j + 1 = objects_push j (asking kind.Make p t k (object_count j) (pos class) (pos 0)) in
          (legal_still (asking kind.Make p t k (object_count j) (pos class) (pos 0)) j (λ u. refl) tt refl (omega (arith, grows)) (s.fresh_inside (object_count j) (omega arith), s.fresh_open (object_count j) (omega arith)), tt)
      by false = (legal_fault j p t k 16 line, tt)
  row_lawful (ask.Made o) f =
      let i = one_inside j o t s f.inside in
      let e = asking kind.Made p t k o (pos 0) (pos 0) in
      lawful_left e (legal_still e j (λ u. refl) tt tt (more_objects j e o f.known.made) i) (out_of e i (λ xs. refl)) f.known.made (λ v h. cc)
  row_lawful (ask.Leave o failed) f =
      let i = one_inside j o t s f.inside in
      let e = asking kind.Leave p t k o (truth failed) (pos 0) in
      lawful_left e (legal_still e j (λ u. refl) tt tt (more_objects j e o f.known.made) i) (out_of e i (λ xs. refl)) f.known.made (λ v h. cc)
  row_lawful (ask.Wait o c n) f =
      let i = one_inside j o t s f.inside in
      let e = asking kind.Wait p t k o (pos c) n in
      lawful_left e (legal_own e (λ u h. eqb-true u t h) (λ q. refl) tt tt (more_objects j e o f.known.made) i) (out_of e i (λ xs. refl)) f.known.made (λ v h. eqb-true v t h)
  row_lawful ask.End f =
      let o = own_object t j in
      let i = one_inside j o t s f.inside in
      let e = asking kind.End p t k o (pos 0) (pos 0) in
      lawful_left e (legal_own e (λ u h. eqb-true u t h) (λ q. refl) tt tt (more_objects j e o f.known.made) i) (out_of e i (λ xs. refl)) f.known.made (λ v h. eqb-true v t h)
  row_lawful (ask.Gone o) f =
      let i = one_inside j o t s f.inside in
      let e = asking kind.Gone p t k o (pos 0) (pos 0) in
      (legal_still e j (λ u. refl) tt tt (more_objects j e o f.known.made) i, tt)
  row_lawful (ask.Spawn o) f =
      let i = one_inside j o t s f.0.inside in
      let e = asking kind.Spawn p t k o (pos (task_count j)) (pos 0) in
      let grows : task_count (j ++ e ∷ []) ≡ task_count j + 1 = tasks_push j e in
      lawful_or (nat_lt (task_count j) TASKS) e 15 (legal_one e j (task_count j) (λ u h. eqb-true u (task_count j) h) (λ r n. ap (here r) (s.few (task_count j) (omega arith))) (omega (arith, grows)) tt refl (more_objects j e o f.0.known.made) i)
  row_lawful (ask.Call o m) f =
      let e = asking kind.Call p t k o (pos m) (pos 0) in
      (legal_own e (λ u h. eqb-true u t h) (λ q. refl) tt tt (more_objects j e o f.0.known.made) tt, lawful_called o m f.0.known.made (inside o j) (open_at o j) refl refl)
  row_lawful (ask.Accept o site mask) f =
      lawful_accepted o (one_inside j o t s f.0.inside) f.0.known.made site mask (met (offers sites site mask) (waiting o j)) (site_at sites site).has_else refl
  row_lawful (ask.Signal o c) f = lawful_signalled o (one_inside j o t s f.inside) f.known.made c (blocked o c j) refl
  row_lawful (ask.SignalBlock o c) f = lawful_handed o (one_inside j o t s f.inside) f.known.made c (blocked o c j) refl
  row_lawful (ask.Empty o c) f =
      (legal_still _ j (λ u. refl) tt tt (more_objects j _ o f.known.made) tt, tt)
  row_lawful (ask.Front o c) f = by (blocked o c j)
    where
      by : (ws : List (ℕ × ℤ)) → Lawful j (front p t k line o c ws)
      by [] = (legal_fault j p t k 11 line, tt)
      by (w ∷ ws) =
          let e = asking kind.Front p t k o (pos c) w.1 in
          (legal_still e j (λ u. refl) tt tt (more_objects j e o f.known.made) tt, tt)
  row_lawful (ask.Raise o event x y) f =
      let e = raise_entry p t k o (first_or_0 (owner o j)) event x y in
      lawful_or (nat_lt (length (pending (first_or_0 (owner o j)) j)) PENDING_EVENTS) e 17 (legal_still e j (λ u. refl) tt tt (more_objects j e o f.0.made) tt)
  row_lawful (ask.Poll mask) f = by (oldest_in mask (pending t j))
    where
      by : (r : Option (ℕ × ℤ × ℤ)) → Lawful j (poll_entry p t k mask r ∷ [])
      by None = (legal_still (poll_entry p t k mask None) j (λ u. refl) tt tt (object_0 j _) tt, tt)
      by (Some r) = (legal_still (poll_entry p t k mask (Some r)) j (λ u. refl) tt tt (object_0 j _) tt, tt)
  row_lawful ask.Yield f =
      let e = asking kind.Yield p t k 0 (pos 0) (pos 0) in
      (legal_own e (λ u h. eqb-true u t h) (λ q. refl) tt tt (object_0 j e) tt, tt)
  row_lawful ask.Slice f =
      let e = asking kind.Slice p t k 0 (pos 0) (pos 0) in
      (legal_own e (λ u h. eqb-true u t h) (λ q. refl) tt tt (object_0 j e) tt, tt)
  row_lawful (ask.Print n items) f = lawful_prints j p t k (take n items)
  row_lawful (ask.Read form) f = (legal_still _ j (λ u. refl) tt tt (object_0 j _) tt, tt)
  row_lawful ask.Fail f = (legal_still _ j (λ u. refl) tt tt (object_0 j _) tt, tt)
  row_lawful ask.Cluster f =
      let e = asking kind.Cluster p t k 0 (pos (cluster_count j)) (pos 0) in
      lawful_or (nat_lt (cluster_count j) CLUSTERS) e 18 (legal_still e j (λ u. refl) tt refl (object_0 j e) tt)
  row_lawful (ask.ClusterEnd c) f =
      let e = asking kind.ClusterEnd p t k 0 (pos c) (pos 0) in
      lawful_or (not (is_in_use opts c j)) e 10 (legal_still e j (λ u. refl) tt tt (object_0 j e) tt)
  row_lawful (ask.Processor c) f =
      let e = asking kind.Processor p t k 0 (pos (processor_count opts j)) (pos c) in
      lawful_or (nat_lt (processor_count opts j) PROCESSORS) e 18 (legal_still e j (λ u. refl) tt tt (object_0 j e) tt)
  row_lawful (ask.ProcessorEnd q) f = (legal_still _ j (λ u. refl) tt tt (object_0 j _) tt, tt)
  row_lawful (ask.Migrate c) f =
      let e = asking kind.Migrate p t k 0 (pos c) (pos 0) in
      (legal_own e (λ u h. eqb-true u t h) (λ q. refl) tt tt (object_0 j e) tt, tt)
  row_lawful (ask.Fault n) f = (legal_fault j p t k n line, tt)
