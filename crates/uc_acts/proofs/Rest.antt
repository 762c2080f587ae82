-- At the end of an act, an object that nobody is inside and where nothing is open is deserted.
use Rattle.std.proofs.Common.{◌≡◌, ℕ, ℤ, zero, suc, ◌==◌, ◌+◌, ◌<◌, ◌&&◌, ◌||◌, Bool, true, false, cond, not, List, [], ◌∷◌, ◌++◌, Option, Some, None, map, take, refl, sym, ap, ◌∙◌, subst, append-nil, append_assoc, arith, length}
use Rattle.std.specs.Prelude.{pos, nat_lt, nat_le}
use Rattle.std.specs.List.{filter, list_any}
use Rattle.std.proofs.lemmas.Bool.{eqb-true, eq-eqb}
use Rattle.std.proofs.lemmas.List.{map-id}
use Rattle.std.proofs.lemmas.List.Folds.{list_any-append}
use Rattle.uc_tree.specs.Programs.{Site}
use Rattle.uc_entry.specs.declared.entry.Entry.{Entry}
use Rattle.uc_entry.specs.declared.entry.Options.{Options}
use Rattle.uc_entry.specs.declared.entry.EntryKind.TheVariants as kind
use Rattle.uc_entry.specs.declared.request.Request.{Request}
use Rattle.uc_entry.specs.declared.request.Request.TheVariants as ask
use Rattle.uc_entry.specs.declared.request.Piece.{Piece}
use Rattle.uc_acts.specs.Journal.{Journal, entries_at, inside, entry, own_object, begin, is_fault, first_or_0, Cost, cost, no_cost, asking}
use Rattle.uc_acts.specs.Queues.{running, waiting, stacked, successor, first_ended, none_running, none_ready, none_served, all_ticks, cluster_count, processor_count, is_in_use}
use Rattle.uc_acts.specs.Doors.{site_at, open_at, offered, next_met, blocked, destroys_busy, has_others}
use Rattle.uc_tree.specs.SiteOffers.{clause_for, Met}
use Rattle.uc_acts.specs.Known.{object_count, task_count, owner}
use Rattle.uc_acts.specs.Pending.{pending, oldest_in}
use Rattle.uc_acts.specs.Stations.{Waits, Stacked, times}
use Rattle.uc_acts.specs.Laws.{IsDeserted, LawInside}
use Rattle.uc_acts.specs.KernelRuns.{Fits, KernelMay, KernelRuns, gives, no_room, acts, begun, more}
use Rattle.uc_acts.specs.Acts.{admit, push, fault, admission, clause_by_way, met_by, called, took, accepted, accept_entry, signalled, handed, front, poll_entry, prints, or_fault, left_by, row, settled, entries_of, is_faulty, verdict, closing, ending, dispatch, lone_limit, admit_failed, failed_by_way, truth}
use Rattle.uc_tree.specs.declared.limits.TheConstants.{OBJECTS, TASKS, PENDING_EVENTS, CLUSTERS, PROCESSORS}
use Rattle.uc_acts.specs.Sound.{Sound, here}
use Rattle.uc_acts.proofs.Seats.{inside_after}
use Rattle.uc_acts.proofs.SoundLemmas.{self_test, all_kept, all_kept_nil}
use Rattle.uc_acts.proofs.Moves.{one_inside, inside_now, open_now, waiting_now, stacked_now}
use Rattle.uc_acts.proofs.Rows.{at_run, out_of, inside_called, open_called}
use Rattle.uc_acts.proofs.Hush.{is_silent, SameDoor, door_other, door_silent}
use Rattle.uc_acts.proofs.Law.{good_whole, sound_run, inside_none}

-- nobody inside and nothing open leaves the object deserted
abbrev pub Rest : ℕ → Journal → Type 0
Rest o j = inside o j ≡ [] → open_at o j ≡ [] → IsDeserted o j

rest_same : (o : ℕ) (i j : Journal) → SameDoor o i j → Rest o j → Rest o i
rest_same o i j d r = λ a b.
    let x = r (sym d.inside ∙ a) (sym d.opened ∙ b) in
    record { none_waits = d.waiting ∙ x.none_waits; none_stacked = d.stacked ∙ x.none_stacked }

no_cons : {A : Type 0} (x : A) (xs ys : List A) → ys ≡ x ∷ xs → ys ≡ [] → ⊥
no_cons x xs ys h g = cc

-- somebody is inside
rest_inside : (o u : ℕ) (us : List ℕ) (j : Journal) → inside o j ≡ u ∷ us → Rest o j
rest_inside o u us j h = λ a b. absurd (no_cons u us (inside o j) h a)

-- an accept is open
rest_open : (o : ℕ) (x : Entry) (xs : List Entry) (j : Journal) → open_at o j ≡ x ∷ xs → Rest o j
rest_open o x xs j h = λ a b. absurd (no_cons x xs (open_at o j) h b)

-- the journal once entries stand
abbrev pub after : Journal → List Entry → Journal
after j [] = j
after j (e ∷ a) = after (j ++ e ∷ []) a

pub after_all : (j : Journal) (a : List Entry) → after j a ≡ j ++ a
after_all j [] = sym (append-nil j)
after_all j (e ∷ a) = after_all (j ++ e ∷ []) a ∙ append_assoc j (e ∷ []) a

abbrev pub AreSilent : List Entry → Type 0
AreSilent [] = Unit {0}
AreSilent (e ∷ a) = (is_silent e.kind ≡ true) × AreSilent a

rest_silent : (o : ℕ) (j : Journal) (a : List Entry) → AreSilent a → Rest o j → Rest o (after j a)
rest_silent o j [] h r = r
rest_silent o j (e ∷ a) h r =
    rest_silent o (j ++ e ∷ []) a h.1 (rest_same o (j ++ e ∷ []) j (door_silent o j e h.0) r)

-- entries of one object
abbrev pub AreAt : ℕ → List Entry → Type 0
AreAt o [] = Unit {0}
AreAt o (e ∷ a) = (e.object ≡ o) × AreAt o a

rest_elsewhere : (o v : ℕ) (j : Journal) (a : List Entry) → AreAt o a → (o == v) ≡ false → Rest v j → Rest v (after j a)
rest_elsewhere o v j [] h n r = r
rest_elsewhere o v j (e ∷ a) h n r =
    rest_elsewhere o v (j ++ e ∷ []) a h.1 n (rest_same v (j ++ e ∷ []) j (door_other v j e (ap (λ x. x == v) h.0 ∙ n)) r)

rest_at : (o : ℕ) (j : Journal) (a : List Entry) → AreAt o a → Rest o (after j a) → ((v : ℕ) → Rest v j) → (v : ℕ) → Rest v (after j a)
rest_at o j a h here others v = by (o == v) refl
  where
    by : (b : Bool) → (o == v) ≡ b → Rest v (after j a)
    by true e = subst (λ x. Rest x (after j a)) (eqb-true o v e) here
    by false e = rest_elsewhere o v j a h e (others v)

-- whoever is admitted is inside
rest_admit : (i : Journal) (p u o way clause : ℕ) (failed : Bool) → inside o i ≡ [] → Rest o (i ++ admit_failed p u o way clause failed ∷ [])
rest_admit i p u o way clause failed empty =
    rest_inside o u [] _ (inside_now i (admit_failed p u o way clause failed) ∙ ap (inside_after kind.Admit (admit_failed p u o way clause failed)) empty)

silent_prints : (p t : ℕ) (k : Cost) (items : List Piece) → AreSilent (prints p t k items)
silent_prints p t k [] = tt
silent_prints p t k (x ∷ items) = (refl, silent_prints p t no_cost items)

silent_or : (b : Bool) (e f : Entry) → is_silent e.kind ≡ true → is_silent f.kind ≡ true → AreSilent (or_fault b e f)
silent_or true e f h g = (h, tt)
silent_or false e f h g = (g, tt)

pub all_of : {A : Type 0} (key : A → ℕ) (t : ℕ) (xs : List A) → list_any (λ x. not (key x == t)) xs ≡ false → times t (map key xs) ≡ 0 → xs ≡ []
all_of key t [] h g = refl
all_of key t (x ∷ xs) h g = by (key x == t) refl h g
  where
    by : (b : Bool) → (key x == t) ≡ b → (not (key x == t) || list_any (λ x. not (key x == t)) xs) ≡ false → times t (key x ∷ map key xs) ≡ 0 → x ∷ xs ≡ []
    by true e h g =
        let same : t ≡ key x = sym (eqb-true (key x) t e) in
        let self : (t == key x) ≡ true = eq-eqb t (key x) same in
        absurd (not_zero (simp self at g))
      where
        not_zero : suc (times t (map key xs)) ≡ 0 → ⊥
        not_zero e = cc
    by false e h g = absurd (no_or (simp e at h))
      where
        no_or : true ≡ false → ⊥
        no_or e = cc

pub or_parts : (a b : Bool) → (a || b) ≡ false → (a ≡ false) × (b ≡ false)
or_parts true b h = cc
or_parts false b h = (refl, h)

module _ (opts : Options) (sites : List Site) (input : List ℕ) (j : Journal) (p t : ℕ) (k : Cost) (line : ℕ) (s : Sound j) (runs : running p j ≡ t ∷ []) (rests : (o : ℕ) → Rest o j) where
  -- t goes out
  module _ (e : Entry) (out : inside e.object (j ++ e ∷ []) ≡ []) (w : waiting e.object (j ++ e ∷ []) ≡ waiting e.object j) (q : stacked e.object (j ++ e ∷ []) ≡ stacked e.object j) where
    rest_next : (ss : List ℕ) (ws : List (ℕ × ℕ)) → stacked e.object j ≡ ss → waiting e.object j ≡ ws → Rest e.object (after (j ++ e ∷ []) (admission sites p e.object (j ++ e ∷ []) (successor ss ws)))
    rest_next [] [] a b = λ f g. record { none_waits = w ∙ b; none_stacked = q ∙ a }
    rest_next [] (x ∷ ws) a b =
        rest_admit (j ++ e ∷ []) p x.0 e.object 2 (clause_by_way sites e.object (j ++ e ∷ []) (x.0, 2)) (failed_by_way sites e.object (j ++ e ∷ []) (x.0, 2)) out
    rest_next (u ∷ us) ws a b =
        rest_admit (j ++ e ∷ []) p u e.object 3 (clause_by_way sites e.object (j ++ e ∷ []) (u, 3)) (failed_by_way sites e.object (j ++ e ∷ []) (u, 3)) out

    at_next : (ss : List ℕ) (ws : List (ℕ × ℕ)) → AreAt e.object (admission sites p e.object (j ++ e ∷ []) (successor ss ws))
    at_next [] [] = tt
    at_next [] (x ∷ ws) = (refl, tt)
    at_next (u ∷ us) ws = (refl, tt)

    rest_left : (v : ℕ) → Rest v (after j (left_by sites j p e.object e))
    rest_left =
        rest_at e.object j (left_by sites j p e.object e) (refl, at_next (stacked e.object j) (waiting e.object j)) (rest_next (stacked e.object j) (waiting e.object j) refl refl) rests

  out_here : (e : Entry) → inside e.object j ≡ t ∷ [] → ((xs : List ℕ) → inside_after e.kind e xs ≡ filter (λ x. not (x == t)) xs ++ []) → inside e.object (j ++ e ∷ []) ≡ []
  out_here e i h = out_of opts sites input j p t k line s runs e i h

  -- a call
  rest_met : (o m m' : ℕ) (a : Entry) (rest : List Entry) (c : Option ℕ) → o < object_count j → open_at o j ≡ a ∷ rest → Rest o (after (j ++ asking kind.Call p t k o (pos m) (pos 0) ∷ []) (met_by p t o a.task m' c))
  rest_met o m m' a rest None made h =
      rest_open o a rest _ (open_called opts sites input j p t k line s runs o m made ∙ h)
  rest_met o m (suc m') a rest (Some c) made h =
      rest_admit _ p t o 1 0 false (inside_called opts sites input j p t k line s runs o m made ∙ (s.doors o).top a rest h)
  rest_met o m zero a rest (Some c) made h =
      let i = j ++ asking kind.Call p t k o (pos m) (pos 0) ∷ [] in
      let x = admit p a.task o 3 c in
      let now : inside o (i ++ x ∷ []) ≡ a.task ∷ [] = inside_now i x ∙ ap (inside_after kind.Admit x) (inside_called opts sites input j p t k line s runs o m made ∙ (s.doors o).top a rest h) in
      rest_inside o a.task [] _ (inside_now (i ++ x ∷ []) (push p t o) ∙ all_kept_nil (inside o (i ++ x ∷ [])) ∙ now)

  rest_called : (o m : ℕ) (within : List ℕ) (opened : List Entry) → o < object_count j → inside o j ≡ within → open_at o j ≡ opened → Rest o (after (j ++ asking kind.Call p t k o (pos m) (pos 0) ∷ []) (called sites p t o m within opened))
  rest_called o m [] [] made a b = rest_admit _ p t o 0 0 false (inside_called opts sites input j p t k line s runs o m made ∙ a)
  rest_called o m (x ∷ xs) [] made a b = rest_inside o x xs _ (inside_called opts sites input j p t k line s runs o m made ∙ a)
  rest_called o m [] (x ∷ rest) made a b = rest_met o m m x rest (clause_for (offered sites x) m) made b
  rest_called o m (y ∷ ys) (x ∷ rest) made a b = rest_met o m m x rest (clause_for (offered sites x) m) made b

  at_met : (o m u : ℕ) (c : Option ℕ) → AreAt o (met_by p t o u m c)
  at_met o m u None = tt
  at_met o (suc m) u (Some c) = (refl, tt)
  at_met o zero u (Some c) = (refl, (refl, tt))

  at_called : (o m : ℕ) (within : List ℕ) (opened : List Entry) → AreAt o (called sites p t o m within opened)
  at_called o m [] [] = (refl, tt)
  at_called o m (x ∷ xs) [] = tt
  at_called o m [] (x ∷ rest) = at_met o m x.task (clause_for (offered sites x) m)
  at_called o m (y ∷ ys) (x ∷ rest) = at_met o m x.task (clause_for (offered sites x) m)

  -- entries of a task that stays inside, or lets another in
  module _ (o : ℕ) (i : inside o j ≡ t ∷ []) where
    pushed : (e : Entry) (u : ℕ) → inside o (j ++ e ∷ []) ≡ t ∷ [] → Rest o ((j ++ e ∷ []) ++ push p u o ∷ [])
    pushed e u h =
        rest_inside o t [] _ (inside_now (j ++ e ∷ []) (push p u o) ∙ all_kept_nil (inside o (j ++ e ∷ [])) ∙ h)

    rest_took : (site mask : ℕ) (b : Bool) (m u : ℕ) → Rest o (after j (took p t k o site mask b m u))
    rest_took site mask b zero u =
        let e = accept_entry p t k o site mask b 3 in
        let self = self_test t in
        pushed e u (inside_now j e ∙ ap (inside_after kind.Accept e) i ∙ simp self)
    rest_took site mask b (suc m) u =
        let e = accept_entry p t k o site mask b 1 in
        let self = self_test t in
        rest_admit (j ++ e ∷ []) p u o 1 0 false (inside_now j e ∙ ap (inside_after kind.Accept e) i ∙ simp self)

    at_took : (site mask : ℕ) (b : Bool) (m u : ℕ) → AreAt o (took p t k o site mask b m u)
    at_took site mask b zero u = (refl, (refl, tt))
    at_took site mask b (suc m) u = (refl, (refl, tt))

    rest_accepted : (site mask : ℕ) (b : Bool) (x : Option Met) → Rest o (after j (accepted p t k o site mask b x))
    rest_accepted site mask b (Some x) = rest_took site mask b x.member x.task
    rest_accepted site mask true None =
        let e = accept_entry p t k o site mask true 2 in
        let self = self_test t in
        rest_inside o t [] _ (inside_now j e ∙ ap (inside_after kind.Accept e) i ∙ simp self)
    rest_accepted site mask false None =
        let e = accept_entry p t k o site mask false 0 in
        rest_open o e [] _ (open_now j e ∙ no_others (open_at o j))
      where
        no_others : (xs : List Entry) → filter (λ a. false) xs ++ accept_entry p t k o site mask false 0 ∷ [] ≡ accept_entry p t k o site mask false 0 ∷ []
        no_others [] = refl
        no_others (x ∷ xs) = no_others xs

    at_accepted : (site mask : ℕ) (b : Bool) (x : Option Met) → AreAt o (accepted p t k o site mask b x)
    at_accepted site mask b (Some x) = at_took site mask b x.member x.task
    at_accepted site mask true None = (refl, tt)
    at_accepted site mask false None = (refl, tt)

    rest_signalled : (c : ℕ) (ws : List (ℕ × ℤ)) → Rest o (after j (signalled p t k o c ws))
    rest_signalled c [] =
        let e = asking kind.Signal p t k o (pos c) (pos 0) in
        rest_inside o t [] _ (inside_now j e ∙ all_kept_nil (inside o j) ∙ i)
    rest_signalled c (w ∷ ws) =
        let e = asking kind.Signal p t k o (pos c) (pos 1) in
        pushed e w.0 (inside_now j e ∙ all_kept_nil (inside o j) ∙ i)

    at_signalled : (c : ℕ) (ws : List (ℕ × ℤ)) → AreAt o (signalled p t k o c ws)
    at_signalled c [] = (refl, tt)
    at_signalled c (w ∷ ws) = (refl, (refl, tt))

    rest_handed : (c : ℕ) (ws : List (ℕ × ℤ)) → Rest o (after j (handed p t k o c ws))
    rest_handed c [] =
        let e = asking kind.SignalBlock p t k o (pos c) (pos 0) in
        let self = self_test t in
        rest_inside o t [] _ (inside_now j e ∙ ap (inside_after kind.SignalBlock e) i ∙ simp self)
    rest_handed c (w ∷ ws) =
        let e = asking kind.SignalBlock p t k o (pos c) (pos 1) in
        let self = self_test t in
        rest_admit (j ++ e ∷ []) p w.0 o 4 0 false (inside_now j e ∙ ap (inside_after kind.SignalBlock e) i ∙ simp self)

    at_handed : (c : ℕ) (ws : List (ℕ × ℤ)) → AreAt o (handed p t k o c ws)
    at_handed c [] = (refl, tt)
    at_handed c (w ∷ ws) = (refl, (refl, tt))

  -- an object that no other task waits at
  none_there : (o : ℕ) → has_others o t j ≡ false → IsDeserted o j
  none_there o h =
      let at = at_run opts sites input j p t k line s runs in
      let a = or_parts (list_any (λ w. not (w.0 == t)) (waiting o j)) _ h in
      let b = or_parts (list_any (λ x. not (x == t)) (stacked o j)) _ a.1 in
      record {
        none_waits = all_of (λ w. w.0) t (waiting o j) a.0 (s.seats t (Waits o) ∙ ap (here (Waits o)) at);
        none_stacked = all_of (λ x. x) t (stacked o j) b.0 (ap (times t) (map-id (stacked o j)) ∙ s.seats t (Stacked o) ∙ ap (here (Stacked o)) at);
      }

  -- no fault stands in place of an entry of this row
  abbrev Calm : Request → Type 0
  Calm r = is_faulty (settled (fault p t no_cost 10 line) j (row opts sites input j p t k line r)) ≡ false

  row_rests : (r : Request) → Fits opts sites j t r → Calm r → (v : ℕ) → Rest v (after j (row opts sites input j p t k line r))
  row_rests (ask.Make class) f calm v = by (nat_lt (object_count j) OBJECTS)
    where
      by : (b : Bool) → Rest v (after j (or_fault b (asking kind.Make p t k (object_count j) (pos class) (pos 0)) (fault p t k 16 line)))
      by true =
          let e = asking kind.Make p t k (object_count j) (pos class) (pos 0) in
          rest_at (object_count j) j (e ∷ []) (refl, tt) (rest_inside (object_count j) t [] _ (inside_now j e ∙ ap (inside_after kind.Make e) (s.fresh_inside (object_count j) (omega arith)))) rests v
      by false = rest_silent v j (fault p t k 16 line ∷ []) (refl, tt) (rests v)
  row_rests (ask.Made o) f calm v =
      let e = asking kind.Made p t k o (pos 0) (pos 0) in
      rest_left e (out_here e (one_inside j o t s f.inside) (λ xs. refl)) (waiting_now j e ∙ all_kept_nil (waiting o j)) (stacked_now j e ∙ all_kept (stacked o j)) v
  row_rests (ask.Leave o failed) f calm v =
      let e = asking kind.Leave p t k o (truth failed) (pos 0) in
      rest_left e (out_here e (one_inside j o t s f.inside) (λ xs. refl)) (waiting_now j e ∙ all_kept_nil (waiting o j)) (stacked_now j e ∙ all_kept (stacked o j)) v
  row_rests (ask.Wait o c n) f calm v =
      let e = asking kind.Wait p t k o (pos c) n in
      rest_left e (out_here e (one_inside j o t s f.inside) (λ xs. refl)) (waiting_now j e ∙ all_kept_nil (waiting o j)) (stacked_now j e ∙ all_kept (stacked o j)) v
  row_rests ask.End f calm v =
      let o = own_object t j in
      let e = asking kind.End p t k o (pos 0) (pos 0) in
      rest_left e (out_here e (one_inside j o t s f.inside) (λ xs. refl)) (waiting_now j e ∙ all_kept_nil (waiting o j)) (stacked_now j e ∙ all_kept (stacked o j)) v
  row_rests (ask.Gone o) f calm v =
      let e = asking kind.Gone p t k o (pos 0) (pos 0) in
      rest_at o j (e ∷ []) (refl, tt) (gone_rests (has_others o t j) refl calm) rests v
    where
      gone_rests : (b : Bool) → has_others o t j ≡ b → Calm (ask.Gone o) → Rest o (j ++ asking kind.Gone p t k o (pos 0) (pos 0) ∷ [])
      gone_rests true h c = absurd (faulty (simp h at c))
        where
          faulty : true ≡ false → ⊥
          faulty e = cc
      gone_rests false h c =
          let e = asking kind.Gone p t k o (pos 0) (pos 0) in
          let d = none_there o h in
          λ a b. record {
            none_waits = waiting_now j e ∙ all_kept_nil (waiting o j) ∙ d.none_waits;
            none_stacked = stacked_now j e ∙ all_kept (stacked o j) ∙ d.none_stacked;
          }
  row_rests (ask.Spawn o) f calm v = by (nat_lt (task_count j) TASKS)
    where
      by : (b : Bool) → Rest v (after j (or_fault b (asking kind.Spawn p t k o (pos (task_count j)) (pos 0)) (fault p t k 15 line)))
      by true =
          let e = asking kind.Spawn p t k o (pos (task_count j)) (pos 0) in
          let self = self_test t in
          rest_at o j (e ∷ []) (refl, tt) (rest_inside o (task_count j) [] _ (inside_now j e ∙ ap (inside_after kind.Spawn e) (one_inside j o t s f.0.inside) ∙ simp self)) rests v
      by false = rest_silent v j (fault p t k 15 line ∷ []) (refl, tt) (rests v)
  row_rests (ask.Call o m) f calm v =
      rest_at o j (row opts sites input j p t k line (ask.Call o m)) (refl, at_called o m (inside o j) (open_at o j)) (rest_called o m (inside o j) (open_at o j) f.0.known.made refl refl) rests v
  row_rests (ask.Accept o site mask) f calm v =
      let i = one_inside j o t s f.0.inside in
      let x = next_met sites site mask o j in
      rest_at o j (row opts sites input j p t k line (ask.Accept o site mask)) (at_accepted o i site mask (site_at sites site).has_else x) (rest_accepted o i site mask (site_at sites site).has_else x) rests v
  row_rests (ask.Signal o c) f calm v =
      let i = one_inside j o t s f.inside in
      rest_at o j (row opts sites input j p t k line (ask.Signal o c)) (at_signalled o i c (blocked o c j)) (rest_signalled o i c (blocked o c j)) rests v
  row_rests (ask.SignalBlock o c) f calm v =
      let i = one_inside j o t s f.inside in
      rest_at o j (row opts sites input j p t k line (ask.SignalBlock o c)) (at_handed o i c (blocked o c j)) (rest_handed o i c (blocked o c j)) rests v
  row_rests (ask.Front o c) f calm v = by (blocked o c j)
    where
      by : (ws : List (ℕ × ℤ)) → Rest v (after j (front p t k line o c ws))
      by [] = rest_silent v j (front p t k line o c []) (refl, tt) (rests v)
      by (w ∷ ws) = rest_silent v j (front p t k line o c (w ∷ ws)) (refl, tt) (rests v)
  row_rests (ask.Raise o event x y) f calm v =
      rest_silent v j (row opts sites input j p t k line (ask.Raise o event x y)) (silent_or (nat_lt (length (pending (first_or_0 (owner o j)) j)) PENDING_EVENTS) _ _ refl refl) (rests v)
  row_rests (ask.Poll mask) f calm v = by (oldest_in mask (pending t j))
    where
      by : (r : Option (ℕ × ℤ × ℤ)) → Rest v (after j (poll_entry p t k mask r ∷ []))
      by None = rest_silent v j (poll_entry p t k mask None ∷ []) (refl, tt) (rests v)
      by (Some r) = rest_silent v j (poll_entry p t k mask (Some r) ∷ []) (refl, tt) (rests v)
  row_rests (ask.Print n items) f calm v = rest_silent v j (prints p t k (take n items)) (silent_prints p t k (take n items)) (rests v)
  row_rests ask.Cluster f calm v = rest_silent v j (row opts sites input j p t k line ask.Cluster) (silent_or (nat_lt (cluster_count j) CLUSTERS) _ _ refl refl) (rests v)
  row_rests (ask.ClusterEnd c) f calm v = rest_silent v j (row opts sites input j p t k line (ask.ClusterEnd c)) (silent_or (not (is_in_use opts c j)) _ _ refl refl) (rests v)
  row_rests (ask.Processor c) f calm v = rest_silent v j (row opts sites input j p t k line (ask.Processor c)) (silent_or (nat_lt (processor_count opts j) PROCESSORS) _ _ refl refl) (rests v)
  row_rests r f calm v = rest_silent v j (row opts sites input j p t k line r) (refl, tt) (rests v)

-- an act without a fault
pub settled_calm : (f : Entry) (j : Journal) (a : List Entry) → is_fault f.kind ≡ true → is_faulty (settled f j a) ≡ false → settled f j a ≡ a
settled_calm f j [] g h = refl
settled_calm f j (e ∷ a) g h = by (λ c. settled_calm f (j ++ e ∷ []) a g c) (destroys_busy j e.kind e) refl
  where
    by : (is_faulty (settled f (j ++ e ∷ []) a) ≡ false → settled f (j ++ e ∷ []) a ≡ a) → (b : Bool) → destroys_busy j e.kind e ≡ b → settled f j (e ∷ a) ≡ e ∷ a
    by ih true d = absurd (clash (simp (d, g) at h))
      where
        clash : true ≡ false → ⊥
        clash e = cc
    by ih false d =
        let c = simp d at h in
        let parts = or_parts (is_fault e.kind) (is_faulty (settled f (j ++ e ∷ []) a)) c in
        simp d (ap (λ l. e ∷ l) (ih parts.1))

faulty_append : (a b : List Entry) → is_faulty (a ++ b) ≡ false → (is_faulty a ≡ false) × (is_faulty b ≡ false)
faulty_append a b h =
    or_parts (is_faulty a) (is_faulty b) (sym (list_any-append (λ e. is_fault e.kind) a b) ∙ h)

silent_closed : (p t : ℕ) (a b c d : Bool) → AreSilent (closing p t (cond a (Some kind.Done) (cond b (Some kind.Deadlock) (cond c (Some kind.NoProcessor) (cond d (Some kind.Limit) None)))))
silent_closed p t true b c d = (refl, tt)
silent_closed p t false true c d = (refl, tt)
silent_closed p t false false true d = (refl, tt)
silent_closed p t false false false true = (refl, tt)
silent_closed p t false false false false = tt

silent_ending : (opts : Options) (j : Journal) (p t : ℕ) (a : List Entry) → AreSilent (ending opts j p t a)
silent_ending opts j p t a = by (is_faulty a)
  where
    by : (b : Bool) → AreSilent (cond b [] (closing p t (verdict opts (j ++ a))))
    by true = tt
    by false =
        silent_closed p t (first_ended (j ++ a)) (none_running opts (j ++ a) && none_ready (j ++ a)) (none_running opts (j ++ a) && none_served opts (j ++ a)) (nat_le opts.ticks (all_ticks (j ++ a)))

after_append : (j : Journal) (a b : List Entry) → after (after j a) b ≡ j ++ (a ++ b)
after_append j a b = after_all (after j a) b ∙ ap (λ l. l ++ b) (after_all j a) ∙ append_assoc j a b

rests_may : (opts : Options) (sites : List Site) (input : List ℕ) (j : Journal) (a : List Entry) → Sound j → ((o : ℕ) → Rest o j) → KernelMay opts sites input j a → is_faulty a ≡ false → (v : ℕ) → Rest v (j ++ a)
rests_may opts sites input j _ s r (gives p t g le) n v = rest_silent v j (dispatch p t ∷ []) (refl, tt) (r v)
rests_may opts sites input j _ s r (no_room p t g le) n v = rest_silent v j (lone_limit ∷ []) (refl, tt) (r v)
rests_may opts sites input j _ s r (acts p t k asked m) n v = by (nat_le (length j + length whole + 1) opts.entries) n
  where
    a : List Entry
    a = entries_of opts sites input j p t k asked

    whole : List Entry
    whole = entries_of opts sites input j p t k asked ++ ending opts j p t (entries_of opts sites input j p t k asked)

    by : (b : Bool) → is_faulty (cond b whole (entry kind.Limit p t 0 0 (pos 0) (pos 0) ∷ [])) ≡ false → Rest v (j ++ cond b whole (entry kind.Limit p t 0 0 (pos 0) (pos 0) ∷ []))
    by false h = rest_silent v j (entry kind.Limit p t 0 0 (pos 0) (pos 0) ∷ []) (refl, tt) (r v)
    by true h =
        let rows = row opts sites input j p t (cost k asked.line) asked.line asked.request in
        let parts = faulty_append a (ending opts j p t a) h in
        let same : a ≡ rows = settled_calm (fault p t no_cost 10 asked.line) j rows refl parts.0 in
        let r1 = row_rests opts sites input j p t (cost k asked.line) asked.line s m.runs r asked.request m.fits parts.0 v in
        let r2 = rest_silent v (after j rows) (ending opts j p t a) (silent_ending opts j p t a) r1 in
        let there : after (after j rows) (ending opts j p t a) ≡ j ++ (a ++ ending opts j p t a) = after_append j rows (ending opts j p t a) ∙ ap (λ l. j ++ (l ++ ending opts j p t a)) (sym same) in
        subst (λ i. Rest v i) there r2

rest_none : (o : ℕ) → Rest o []
unfolding waiting stacked entries_at
rest_none o = λ a b. record { none_waits = refl; none_stacked = refl }

rest_begin : (opts : Options) (o : ℕ) → Rest o (begin opts ∷ [])
rest_begin opts =
    let e = begin opts in
    rest_at 0 [] (e ∷ []) (refl, tt) (rest_inside 0 0 [] _ (inside_now [] e ∙ ap (inside_after kind.Begin e) (inside_none 0))) rest_none

pub rests_run : (opts : Options) (sites : List Site) (input : List ℕ) {j : Journal} → KernelRuns opts sites input j → is_faulty j ≡ false → (o : ℕ) → Rest o j
rests_run opts sites input begun h = rest_begin opts
rests_run opts sites input (more {j} {a} r o m) h =
    let parts = faulty_append j a h in
    rests_may opts sites input j a (good_whole opts sites input r).sound (rests_run opts sites input r parts.0) m parts.1

pub law_inside : LawInside
law_inside opts sites input j runs = record {
  one = λ n o. ((sound_run opts sites input runs n).doors o).one;
  opened = λ n o a rest h.
      let d = (sound_run opts sites input runs n).doors o in
      record { empty = d.top a rest h; acceptor = d.acceptor a rest h };
  deserted = rests_run opts sites input runs;
}
