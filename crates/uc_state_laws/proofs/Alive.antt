-- No entry moves a task that has ended, so who runs has not.
use Rattle.std.proofs.Common.{◌≡◌, ◌≢◌, ℕ, ℤ, zero, suc, ◌==◌, ◌&&◌, ◌||◌, Bool, true, false, List, [], ◌∷◌, ◌++◌, Option, Some, None, take, map, length, refl, sym, ap, ◌∙◌, subst, arith, append-nil, append_assoc}
use Rattle.std.specs.Prelude.{nat_lt}
use Rattle.std.proofs.lemmas.Bool.{eqb-true}
use Rattle.uc_tree.specs.Programs.{Site}
use Rattle.uc_tree.specs.SiteOffers.{clause_for, Met}
use Rattle.uc_tree.specs.declared.limits.TheConstants.{TASKS, OBJECTS, PENDING_EVENTS, CLUSTERS, PROCESSORS}
use Rattle.uc_entry.specs.declared.entry.Entry.{Entry}
use Rattle.uc_entry.specs.declared.entry.EntryKind.{EntryKind}
use Rattle.uc_entry.specs.declared.entry.EntryKind.TheVariants as kind
use Rattle.uc_entry.specs.declared.entry.Options.{Options}
use Rattle.uc_entry.specs.declared.request.Piece.{Piece}
use Rattle.uc_entry.specs.declared.request.Request.{Request}
use Rattle.uc_entry.specs.declared.request.Request.TheVariants as ask
use Rattle.uc_acts.specs.Journal.{Journal, begin, inside, is_over, own_object, first_or_0, Cost, cost, no_cost}
use Rattle.uc_acts.specs.Queues.{running, waiting, stacked, successor, cluster_count, processor_count}
use Rattle.uc_acts.specs.Known.{object_count, task_count, owner, has_ended, ends}
use Rattle.uc_acts.specs.Pending.{pending, oldest_in}
use Rattle.uc_acts.specs.Doors.{site_at, open_at, offered, offers, next_met, blocked}
use Rattle.uc_acts.specs.Stations.{Station, Ready, Running, Waits, Stacked, Blocked}
use Rattle.uc_acts.specs.Sound.{Sound, Spot, At, Ended, Unborn, mover, own_or_ready, target, spot}
use Rattle.uc_acts.specs.Acts.{row, admission, met_by, called, took, accepted, accept_entry, signalled, handed, front, poll_entry, prints, or_fault, left_by, dispatch, lone_limit}
use Rattle.uc_acts.specs.KernelRuns.{KernelMay, KernelRuns, gives, no_room, acts, begun, more}
use Rattle.uc_acts.proofs.Noted.{noted_at}
use Rattle.uc_acts.proofs.SoundLemmas.{ended_push}
use Rattle.uc_acts.proofs.Moves.{counted_at, first_at, met_counts, spot_stays, spot_moves}
use Rattle.uc_acts.proofs.Law.{good_whole}
use Rattle.uc_acts.proofs.Bounds.{over_limit}
use Rattle.uc_acts.proofs.Living.{going_row}
use Rattle.uc_state_laws.specs.Laws.{LawAlive}
use Rattle.uc_state_laws.proofs.Ticks.{no_both, not_true}

-- a task that has not ended, by its spot
abbrev Lives : ℕ → Journal → Type 0
Lives u i = spot u i ≢ Ended

-- whoever an entry moves has not ended
abbrev MovesLiving : Journal → List Entry → Type 0
MovesLiving i [] = Unit {0}
MovesLiving i (e ∷ a) = ((u : ℕ) → mover e.kind e u ≡ true → Lives u i) × MovesLiving (i ++ e ∷ []) a

at_lives : (u : ℕ) (i : Journal) (q : Spot) → spot u i ≡ q → q ≢ Ended → Lives u i
at_lives u i q h n e = n (sym h ∙ e)

-- an entry ends a task only as its end
ends_target : (k : EntryKind) (i : Journal) (e : Entry) (u : ℕ) → ends u k e ≡ true → (mover k e u ≡ true) × (target k (noted_at i e) u ≡ Ended)
ends_target kind.End i e u h = (h, refl)
ends_target k i e u h = cc

target_not : (k : EntryKind) (i : Journal) (e : Entry) (u : ℕ) → ends u k e ≡ false → mover k e u ≡ true → target k (noted_at i e) u ≢ Ended
target_not kind.End i e u h m f = no_both (u == e.task) m h
target_not kind.Admit i e u h m f = by (e.task == (noted_at i e).actor) f
  where
    by : (b : Bool) → own_or_ready b e.proc ((noted_at i e).cluster u) ≡ Ended → ⊥
    by true g = cc
    by false g = cc
target_not k i e u h m f = cc

-- so a task that lives goes on to live behind any entry but its end
stays : (i : Journal) (e : Entry) (u : ℕ) → ends u e.kind e ≡ false → Lives u i → Lives u (i ++ e ∷ [])
stays i e u h l f = by (mover e.kind e u) refl
  where
    by : (m : Bool) → mover e.kind e u ≡ m → ⊥
    by true m = target_not e.kind i e u h m (sym (spot_moves i e u m) ∙ f)
    by false m = l (sym (spot_stays i e u m) ∙ f)

-- who has ended stays where nobody is
record Gone (j : Journal) : Type 0 where
  at : (u : ℕ) → has_ended u j ≡ true → spot u j ≡ Ended

gone_step : (i : Journal) (e : Entry) → ((u : ℕ) → mover e.kind e u ≡ true → Lives u i) → Gone i → Gone (i ++ e ∷ [])
gone_step i e m g = record { at = λ u h. by u (ends u e.kind e) refl (sym (ended_push u i e) ∙ h) }
  where
    or_none : (b : Bool) → (b || false) ≡ true → b ≡ true
    or_none true h = refl
    or_none false h = h

    kept : (u : ℕ) (b : Bool) → mover e.kind e u ≡ b → has_ended u i ≡ true → spot u (i ++ e ∷ []) ≡ Ended
    kept u true f h = absurd (m u f (g.at u h))
    kept u false f h = spot_stays i e u f ∙ g.at u h

    by : (u : ℕ) (b : Bool) → ends u e.kind e ≡ b → (has_ended u i || ends u e.kind e) ≡ true → spot u (i ++ e ∷ []) ≡ Ended
    by u true f h = let x = ends_target e.kind i e u f in spot_moves i e u x.0 ∙ x.1
    by u false f h = kept u (mover e.kind e u) refl (or_none (has_ended u i) (sym (ap (λ b. has_ended u i || b) f) ∙ h))

gone_all : (i : Journal) (a : List Entry) → MovesLiving i a → Gone i → Gone (i ++ a)
gone_all i [] m g = subst Gone (sym (append-nil i)) g
gone_all i (e ∷ a) m g = subst Gone (append_assoc i (e ∷ []) a) (gone_all (i ++ e ∷ []) a m.1 (gone_step i e m.0 g))

-- the rows

one_mover : (u v : ℕ) (i : Journal) → Lives v i → (u == v) ≡ true → Lives u i
one_mover u v i l h = subst (λ x. Lives x i) (sym (eqb-true u v h)) l

and_first : (a b : Bool) → (a && b) ≡ true → a ≡ true
and_first true b h = refl
and_first false b h = cc

prints_living : (i : Journal) (p t : ℕ) (k : Cost) (items : List Piece) → MovesLiving i (prints p t k items)
prints_living i p t k [] = tt
prints_living i p t k (x ∷ items) = (λ u h. cc h, prints_living (i ++ _) p t no_cost items)

module _ (opts : Options) (sites : List Site) (input : List ℕ) (j : Journal) (p t : ℕ) (k : Cost) (line : ℕ) (s : Sound j) (runs : running p j ≡ t ∷ []) where
  mine : Lives t j
  mine = at_lives t j (At (Running p)) (first_at j s (Running p) t [] runs) (λ e. cc e)

  either_of : (b : Bool) (e f : Entry) → ((u : ℕ) → mover e.kind e u ≡ true → Lives u j) → ((u : ℕ) → mover f.kind f u ≡ true → Lives u j) → MovesLiving j (or_fault b e f)
  either_of true e f h g = (h, tt)
  either_of false e f h g = (g, tt)

  -- whoever waits in a queue lives behind an entry that moves none but t
  waits : (e : Entry) → ((u : ℕ) → mover e.kind e u ≡ true → u ≡ t) → (u : ℕ) (q : Station) → spot u j ≡ At q → At q ≢ At (Running p) → Lives u (j ++ e ∷ [])
  waits e only u q h n f =
      let still : mover e.kind e u ≡ false = not_true (mover e.kind e u) (λ m. n (sym h ∙ ap (λ v. spot v j) (only u m) ∙ first_at j s (Running p) t [] runs)) in
      let same : At q ≡ Ended = sym h ∙ sym (spot_stays j e u still) ∙ f in
      cc same

  next_living : (o : ℕ) (e : Entry) → ((u : ℕ) → mover e.kind e u ≡ true → u ≡ t) → (ss : List ℕ) (ws : List (ℕ × ℕ)) → stacked o j ≡ ss → waiting o j ≡ ws → MovesLiving (j ++ e ∷ []) (admission sites p o (j ++ e ∷ []) (successor ss ws))
  next_living o e only (u ∷ ss) ws h g =
      (λ w f. one_mover w u (j ++ e ∷ []) (waits e only u (Stacked o) (first_at j s (Stacked o) u ss h) (λ x. cc x)) f, tt)
  next_living o e only [] (w ∷ ws) h g =
      (λ u f. one_mover u w.0 (j ++ e ∷ []) (waits e only w.0 (Waits o) (first_at j s (Waits o) w.0 (map (λ x. x.0) ws) (ap (map (λ (x : ℕ × ℕ). x.0)) g)) (λ x. cc x)) f, tt)
  next_living o e only [] [] h g = tt

  left_living : (o : ℕ) (e : Entry) → ((u : ℕ) → mover e.kind e u ≡ true → u ≡ t) → MovesLiving j (left_by sites j p o e)
  left_living o e only =
      (λ u h. subst (λ v. Lives v j) (sym (only u h)) mine, next_living o e only (stacked o j) (waiting o j) refl refl)

  met_living : (o m u : ℕ) (i : Journal) (c : Option ℕ) → Lives u i → Lives t i → MovesLiving i (met_by p t o u m c)
  met_living o m u i None h l = tt
  met_living o zero u i (Some clause) h l =
      (λ v e. one_mover v u i h e, (λ v e. one_mover v t (i ++ _) (stays i _ t refl l) e, tt))
  met_living o (suc m) u i (Some clause) h l = (λ v e. one_mover v t i l e, tt)

  called_living : (o m : ℕ) (i : Journal) (within : List ℕ) (opened : List Entry) → open_at o j ≡ opened → ((u : ℕ) → Lives u j → Lives u i) → MovesLiving i (called sites p t o m within opened)
  called_living o m i [] [] h k = (λ v e. one_mover v t i (k t mine) e, tt)
  called_living o m i (x ∷ xs) [] h k = tt
  called_living o m i [] (a ∷ rest) h k = met_living o m a.task i (clause_for (offered sites a) m) (k a.task (acceptor o a rest h)) (k t mine)
    where
      acceptor : (o : ℕ) (a : Entry) (rest : List Entry) → open_at o j ≡ a ∷ rest → Lives a.task j
      acceptor o a rest h = let x = (s.doors o).acceptor a rest h in at_lives a.task j (At (Stacked o)) (first_at j s (Stacked o) a.task x.below x.top) (λ f. cc f)
  called_living o m i (x ∷ xs) (a ∷ rest) h k = met_living o m a.task i (clause_for (offered sites a) m) (k a.task (acceptor o a rest h)) (k t mine)
    where
      acceptor : (o : ℕ) (a : Entry) (rest : List Entry) → open_at o j ≡ a ∷ rest → Lives a.task j
      acceptor o a rest h = let x = (s.doors o).acceptor a rest h in at_lives a.task j (At (Stacked o)) (first_at j s (Stacked o) a.task x.below x.top) (λ f. cc f)

  own_accept : (o site mask : ℕ) (b : Bool) (d u : ℕ) → mover kind.Accept (accept_entry p t k o site mask b d) u ≡ true → Lives u j
  own_accept o site mask b d u h = one_mover u t j mine (and_first (u == t) _ h)

  took_living : (o site mask : ℕ) (b : Bool) (m u : ℕ) → Lives u j → MovesLiving j (took p t k o site mask b m u)
  took_living o site mask b zero u l = (own_accept o site mask b 3, (λ v e. one_mover v u (j ++ _) (stays j _ u refl l) e, tt))
  took_living o site mask b (suc m) u l = (own_accept o site mask b 1, (λ v e. one_mover v u (j ++ _) (stays j _ u refl l) e, tt))

  accepted_living : (o site mask : ℕ) (b : Bool) (x : Option Met) → next_met sites site mask o j ≡ x → MovesLiving j (accepted p t k o site mask b x)
  accepted_living o site mask b (Some x) h =
      let n = met_counts (offers sites site mask) (waiting o j) x h in
      took_living o site mask b x.member x.task (at_lives x.task j (At (Waits o)) (counted_at j s (Waits o) x.task n.0 n.1) (λ f. cc f))
  accepted_living o site mask true None h = (own_accept o site mask true 2, tt)
  accepted_living o site mask false None h = (own_accept o site mask false 0, tt)

  blocked_lives : (o c : ℕ) (w : ℕ × ℤ) (ws : List (ℕ × ℤ)) → blocked o c j ≡ w ∷ ws → Lives w.0 j
  blocked_lives o c w ws h = at_lives w.0 j (At (Blocked o c)) (first_at j s (Blocked o c) w.0 (map (λ x. x.0) ws) (ap (map (λ (x : ℕ × ℤ). x.0)) h)) (λ f. cc f)

  signalled_living : (o c : ℕ) (ws : List (ℕ × ℤ)) → blocked o c j ≡ ws → MovesLiving j (signalled p t k o c ws)
  signalled_living o c [] h = (λ u e. cc e, tt)
  signalled_living o c (w ∷ ws) h = (λ u e. cc e, (λ v e. one_mover v w.0 (j ++ _) (stays j _ w.0 refl (blocked_lives o c w ws h)) e, tt))

  handed_living : (o c : ℕ) (ws : List (ℕ × ℤ)) → blocked o c j ≡ ws → MovesLiving j (handed p t k o c ws)
  handed_living o c [] h = (λ u e. one_mover u t j mine (and_first (u == t) _ e), tt)
  handed_living o c (w ∷ ws) h =
      (λ u e. one_mover u t j mine (and_first (u == t) _ e), (λ v e. one_mover v w.0 (j ++ _) (stays j _ w.0 refl (blocked_lives o c w ws h)) e, tt))

  front_living : (o c : ℕ) (ws : List (ℕ × ℤ)) → MovesLiving j (front p t k line o c ws)
  front_living o c [] = (λ u e. cc e, tt)
  front_living o c (w ∷ ws) = (λ u e. cc e, tt)

  poll_living : (mask : ℕ) (x : Option (ℕ × ℤ × ℤ)) → MovesLiving j (poll_entry p t k mask x ∷ [])
  poll_living mask None = (λ u e. cc e, tt)
  poll_living mask (Some x) = (λ u e. cc e, tt)

  born : (u : ℕ) → (u == task_count j) ≡ true → Lives u j
  born u h = at_lives u j Unborn (s.few u (let e = eqb-true u (task_count j) h in omega (arith, e))) (λ f. cc f)

  row_living : (r : Request) → MovesLiving j (row opts sites input j p t k line r)
  row_living (ask.Make class) = either_of (nat_lt (object_count j) OBJECTS) _ _ (λ u e. cc e) (λ u e. cc e)
  row_living (ask.Made o) = left_living o _ (λ u e. cc e)
  row_living (ask.Spawn o) = either_of (nat_lt (task_count j) TASKS) _ _ (λ u e. born u e) (λ u e. cc e)
  row_living (ask.Call o m) =
      (λ u e. one_mover u t j mine e, called_living o m (j ++ _) (inside o j) (open_at o j) refl (λ u h. stays j _ u refl h))
  row_living (ask.Leave o failed) = left_living o _ (λ u e. cc e)
  row_living (ask.Accept o site mask) = accepted_living o site mask (site_at sites site).has_else (next_met sites site mask o j) refl
  row_living (ask.Wait o c n) = left_living o _ (λ u e. eqb-true u t e)
  row_living (ask.Signal o c) = signalled_living o c (blocked o c j) refl
  row_living (ask.SignalBlock o c) = handed_living o c (blocked o c j) refl
  row_living (ask.Empty o c) = (λ u e. cc e, tt)
  row_living (ask.Front o c) = front_living o c (blocked o c j)
  row_living (ask.Raise o event x y) =
      either_of (nat_lt (length (pending (first_or_0 (owner o j)) j)) PENDING_EVENTS) _ _ (λ u e. cc e) (λ u e. cc e)
  row_living (ask.Poll mask) = poll_living mask (oldest_in mask (pending t j))
  row_living ask.Yield = (λ u e. one_mover u t j mine e, tt)
  row_living ask.Slice = (λ u e. one_mover u t j mine e, tt)
  row_living (ask.Print n items) = prints_living j p t k (take n items)
  row_living (ask.Read form) = (λ u e. cc e, tt)
  row_living ask.Fail = (λ u e. cc e, tt)
  row_living ask.Cluster = either_of (nat_lt (cluster_count j) CLUSTERS) _ _ (λ u e. cc e) (λ u e. cc e)
  row_living (ask.ClusterEnd c) = either_of _ _ _ (λ u e. cc e) (λ u e. cc e)
  row_living (ask.Processor c) = either_of (nat_lt (processor_count opts j) PROCESSORS) _ _ (λ u e. cc e) (λ u e. cc e)
  row_living (ask.ProcessorEnd q) = (λ u e. cc e, tt)
  row_living (ask.Migrate c) = (λ u e. one_mover u t j mine e, tt)
  row_living ask.End = left_living (own_object t j) _ (λ u e. eqb-true u t e)
  row_living (ask.Gone o) = (λ u e. cc e, tt)
  row_living (ask.Fault n) = (λ u e. cc e, tt)

gone_may : (opts : Options) (sites : List Site) (input : List ℕ) (j : Journal) (a : List Entry) → Sound j → KernelMay opts sites input j a → is_over (j ++ a) ≡ false → Gone j → Gone (j ++ a)
gone_may opts sites input j _ s (gives p t v le) on g =
    gone_step j (dispatch p t) (λ u h. one_mover u t j (at_lives t j (At (Ready v.cluster)) (first_at j s (Ready v.cluster) t v.later v.queued) (λ f. cc f)) h) g
gone_may opts sites input j _ s (no_room p t v le) on g = no_both (is_over (j ++ lone_limit ∷ [])) (over_limit j 0 0) on
gone_may opts sites input j _ s (acts p t k asked m) on g =
    subst (λ a. Gone (j ++ a)) (sym (going_row opts sites input j p t k asked on).0) (gone_all j (row opts sites input j p t (cost k asked.line) asked.line asked.request) (row_living opts sites input j p t (cost k asked.line) asked.line s m.runs asked.request) g)

none_ended : (opts : Options) (u : ℕ) → has_ended u (begin opts ∷ []) ≡ false
unfolding has_ended
none_ended opts u = refl

gone_run : (opts : Options) (sites : List Site) (input : List ℕ) {j : Journal} → KernelRuns opts sites input j → is_over j ≡ false → Gone j
gone_run opts sites input begun on = record { at = λ u h. no_both (has_ended u (begin opts ∷ [])) h (none_ended opts u) }
gone_run opts sites input (more {j} {a} r o m) on =
    gone_may opts sites input j a (good_whole opts sites input r).sound m on (gone_run opts sites input r o)

pub law_alive : LawAlive
law_alive opts sites input j r on p t h = by (has_ended t j) refl
  where
    here : spot t j ≡ At (Running p)
    here = first_at j (good_whole opts sites input r).sound (Running p) t [] h

    by : (b : Bool) → has_ended t j ≡ b → has_ended t j ≡ false
    by false e = e
    by true e =
        let same : Ended ≡ At (Running p) = sym ((gone_run opts sites input r on).at t e) ∙ first_at j (good_whole opts sites input r).sound (Running p) t [] h in
        cc same
