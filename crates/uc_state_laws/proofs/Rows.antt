-- Who is at an object behind an act.
use Rattle.std.proofs.Common.{◌≡◌, ℕ, ℤ, zero, suc, ◌==◌, ◌&&◌, ◌||◌, Bool, true, false, cond, not, List, [], ◌∷◌, ◌++◌, Option, Some, None, map, refl, sym, ap, ◌∙◌, subst, append-nil, append_assoc, take}
use Rattle.std.specs.Prelude.{pos, nat_lt}
use Rattle.std.specs.List.{filter, list_any}
use Rattle.std.proofs.lemmas.Bool.{eqb-true}
use Rattle.std.proofs.lemmas.List.Folds.{list_any-append}
use Rattle.uc_tree.specs.Programs.{Site}
use Rattle.uc_tree.specs.declared.limits.TheConstants.{OBJECTS, TASKS}
use Rattle.uc_tree.specs.SiteOffers.{Met}
use Rattle.uc_entry.specs.declared.entry.Entry.{Entry}
use Rattle.uc_entry.specs.declared.entry.EntryKind.TheVariants as kind
use Rattle.uc_entry.specs.declared.entry.Options.{Options}
use Rattle.uc_entry.specs.declared.request.Piece.{Piece}
use Rattle.uc_entry.specs.declared.request.Request.{Request}
use Rattle.uc_entry.specs.declared.request.Request.TheVariants as ask
use Rattle.uc_acts.specs.Journal.{Journal, Cost, no_cost, asking, inside, own_object, is_over, is_ending}
use Rattle.uc_acts.specs.Queues.{running, waiting, stacked, successor}
use Rattle.uc_acts.specs.Known.{has, object_count, task_count}
use Rattle.uc_acts.specs.Pending.{pending, oldest_in}
use Rattle.uc_acts.specs.Doors.{site_at, open_at, offers, next_met, blocked, blocked_at}
use Rattle.uc_acts.specs.Stations.{Running, Waits, Stacked, times}
use Rattle.uc_acts.specs.Sound.{Sound, At, spot, here}
use Rattle.uc_acts.specs.KernelRuns.{Fits}
use Rattle.uc_acts.specs.Acts.{row, admission, admit, push, met_by, called, took, accepted, accept_entry, signalled, handed, front, poll_entry, prints, or_fault, left_by}
use Rattle.uc_acts.proofs.Moves.{first_at, met_counts}
use Rattle.uc_acts.proofs.Room.{not_blocked}
use Rattle.uc_acts.proofs.SoundLemmas.{self_test}
use Rattle.uc_state_laws.specs.Places.{is_at, SamePlaces, Arrives, Departs, Spawns, PlacesBehind}
use Rattle.uc_state_laws.proofs.Places.{flipped, arrives, remains, departs, still, spawned}

or_true : (b : Bool) → (b || true) ≡ true
or_true true = refl
or_true false = refl

-- relations one behind the other

pub same_then : (i j k : Journal) → SamePlaces i j → SamePlaces j k → SamePlaces i k
same_then i j k a b = record { at = λ v q. b.at v q ∙ a.at v q; tasks = b.tasks ∙ a.tasks }

arrives_then : (t o : ℕ) (i j k : Journal) → Arrives t o i j → SamePlaces j k → Arrives t o i k
arrives_then t o i j k a b = record { at = λ v q. b.at v q ∙ a.at v q; tasks = b.tasks ∙ a.tasks }

departs_then : (t o : ℕ) (i j k : Journal) → Departs t o i j → SamePlaces j k → Departs t o i k
departs_then t o i j k a b = record { at = λ v q. b.at v q ∙ a.at v q; tasks = b.tasks ∙ a.tasks }

no_entries : (i : Journal) → SamePlaces i (i ++ [])
no_entries i = record { at = λ v q. ap (is_at v q) (append-nil i); tasks = ap task_count (append-nil i) }

-- one entry, and others behind it
first_same : (i : Journal) (e : Entry) (a : List Entry) → SamePlaces i (i ++ e ∷ []) → SamePlaces (i ++ e ∷ []) ((i ++ e ∷ []) ++ a) → SamePlaces i (i ++ e ∷ a)
first_same i e a h g = subst (SamePlaces i) (append_assoc i (e ∷ []) a) (same_then i (i ++ e ∷ []) ((i ++ e ∷ []) ++ a) h g)

first_arrives : (t o : ℕ) (i : Journal) (e : Entry) (a : List Entry) → Arrives t o i (i ++ e ∷ []) → SamePlaces (i ++ e ∷ []) ((i ++ e ∷ []) ++ a) → Arrives t o i (i ++ e ∷ a)
first_arrives t o i e a h g = subst (Arrives t o i) (append_assoc i (e ∷ []) a) (arrives_then t o i (i ++ e ∷ []) ((i ++ e ∷ []) ++ a) h g)

first_departs : (t o : ℕ) (i : Journal) (e : Entry) (a : List Entry) → Departs t o i (i ++ e ∷ []) → SamePlaces (i ++ e ∷ []) ((i ++ e ∷ []) ++ a) → Departs t o i (i ++ e ∷ a)
first_departs t o i e a h g = subst (Departs t o i) (append_assoc i (e ∷ []) a) (departs_then t o i (i ++ e ∷ []) ((i ++ e ∷ []) ++ a) h g)

-- who stands in a list

pub none_of : (xs : List ℕ) (u : ℕ) → times u xs ≡ 0 → has xs u ≡ false
none_of [] u h = refl
none_of (x ∷ xs) u h = by (u == x) refl (none_of xs u) h
  where
    by : (b : Bool) → (u == x) ≡ b → (times u xs ≡ 0 → has xs u ≡ false) → cond b (suc (times u xs)) (times u xs) ≡ 0 → ((x == u) || has xs u) ≡ false
    by true e ih g = cc
    by false e ih g = ap (λ b. b || has xs u) (flipped x u ∙ e) ∙ ih g

some_of : (xs : List ℕ) (u n : ℕ) → times u xs ≡ suc n → has xs u ≡ true
some_of [] u n h = cc
some_of (x ∷ xs) u n h = by (u == x) refl (some_of xs u n) h
  where
    by : (b : Bool) → (u == x) ≡ b → (times u xs ≡ suc n → has xs u ≡ true) → cond b (suc (times u xs)) (times u xs) ≡ suc n → ((x == u) || has xs u) ≡ true
    by true e ih g = ap (λ b. b || has xs u) (flipped x u ∙ e)
    by false e ih g = ap (λ b. b || has xs u) (flipped x u ∙ e) ∙ ih g

has_first : (xs ys : List ℕ) (u : ℕ) → xs ≡ u ∷ ys → has xs u ≡ true
has_first xs ys u h = ap (λ l. has l u) h ∙ ap (λ b. b || has ys u) (self_test u)

-- who is blocked on a condition is blocked at its object
blocked_has : (bs : List (ℕ × ℕ × ℤ)) (c u : ℕ) → has (map (λ (w : ℕ × ℤ). w.0) (map (λ (b : ℕ × ℕ × ℤ). (b.0, b.2)) (filter (λ (b : ℕ × ℕ × ℤ). b.1 == c) bs))) u ≡ true → has (map (λ b. b.0) bs) u ≡ true
blocked_has [] c u h = cc
blocked_has (b ∷ bs) c u h = by (b.1 == c) (blocked_has bs c u) h
  where
    by : (x : Bool) → (has (map (λ (w : ℕ × ℤ). w.0) (map (λ (b : ℕ × ℕ × ℤ). (b.0, b.2)) (filter (λ (b : ℕ × ℕ × ℤ). b.1 == c) bs))) u ≡ true → has (map (λ b. b.0) bs) u ≡ true) → has (map (λ (w : ℕ × ℤ). w.0) (map (λ (b : ℕ × ℕ × ℤ). (b.0, b.2)) (cond x (b ∷ filter (λ (b : ℕ × ℕ × ℤ). b.1 == c) bs) (filter (λ (b : ℕ × ℕ × ℤ). b.1 == c) bs)))) u ≡ true → ((b.0 == u) || has (map (λ b. b.0) bs) u) ≡ true
    by true ih g = later (b.0 == u) g
      where
        later : (y : Bool) → (y || has (map (λ (w : ℕ × ℤ). w.0) (map (λ (b : ℕ × ℕ × ℤ). (b.0, b.2)) (filter (λ (b : ℕ × ℕ × ℤ). b.1 == c) bs))) u) ≡ true → (y || has (map (λ b. b.0) bs) u) ≡ true
        later true k = refl
        later false k = ih k
    by false ih g = ap (λ y. (b.0 == u) || y) (ih g) ∙ or_true (b.0 == u)

module _ (u o : ℕ) (j : Journal) where
  pub there_inside : has (inside o j) u ≡ true → is_at u o j ≡ true
  there_inside h =
      ap (λ b. b || (has (map (λ w. w.0) (waiting o j)) u || (has (stacked o j) u || has (map (λ b. b.0) (blocked_at o j)) u))) h

  pub there_waiting : has (map (λ w. w.0) (waiting o j)) u ≡ true → is_at u o j ≡ true
  there_waiting h =
      ap (λ b. has (inside o j) u || (b || (has (stacked o j) u || has (map (λ b. b.0) (blocked_at o j)) u))) h ∙ or_true (has (inside o j) u)

  there_stacked : has (stacked o j) u ≡ true → is_at u o j ≡ true
  there_stacked h =
      ap (λ b. has (inside o j) u || (has (map (λ w. w.0) (waiting o j)) u || (b || has (map (λ b. b.0) (blocked_at o j)) u))) h ∙ ap (λ b. has (inside o j) u || b) (or_true (has (map (λ w. w.0) (waiting o j)) u)) ∙ or_true (has (inside o j) u)

  there_blocked : has (map (λ b. b.0) (blocked_at o j)) u ≡ true → is_at u o j ≡ true
  there_blocked h =
      ap (λ b. has (inside o j) u || (has (map (λ w. w.0) (waiting o j)) u || (has (stacked o j) u || b))) h ∙ ap (λ b. has (inside o j) u || (has (map (λ w. w.0) (waiting o j)) u || b)) (or_true (has (stacked o j) u)) ∙ ap (λ b. has (inside o j) u || b) (or_true (has (map (λ w. w.0) (waiting o j)) u)) ∙ or_true (has (inside o j) u)

pub over_by : (j : Journal) (e : Entry) → is_ending e.kind ≡ true → is_over (j ++ e ∷ []) ≡ true
unfolding is_over
over_by j e h =
    list_any-append (λ x. is_ending x.kind) j (e ∷ []) ∙ ap (λ b. list_any (λ x. is_ending x.kind) j || (b || false)) h ∙ or_true (list_any (λ x. is_ending x.kind) j)

prints_same : (i : Journal) (p t : ℕ) (k : Cost) (items : List Piece) → SamePlaces i (i ++ prints p t k items)
prints_same i p t k [] = no_entries i
prints_same i p t k (x ∷ items) = first_same i _ (prints p t no_cost items) (still i _ refl) (prints_same (i ++ _ ∷ []) p t no_cost items)

module _ (opts : Options) (sites : List Site) (input : List ℕ) (j : Journal) (p t : ℕ) (k : Cost) (line : ℕ) (s : Sound j) (runs : running p j ≡ t ∷ []) where
  where_t : spot t j ≡ At (Running p)
  where_t = first_at j s (Running p) t [] runs

  pub waits_not : (o : ℕ) → has (map (λ w. w.0) (waiting o j)) t ≡ false
  waits_not o = none_of (map (λ w. w.0) (waiting o j)) t (s.seats t (Waits o) ∙ ap (here (Waits o)) where_t)

  pub stacked_not : (o : ℕ) → has (stacked o j) t ≡ false
  stacked_not o = none_of (stacked o j) t (s.seats t (Stacked o) ∙ ap (here (Stacked o)) where_t)

  pub blocked_not : (o : ℕ) → has (map (λ b. b.0) (blocked_at o j)) t ≡ false
  blocked_not o = none_of (map (λ b. b.0) (blocked_at o j)) t (not_blocked j s o p t where_t)

  -- who is next at an object is there, and is another task
  record Another (o u : ℕ) : Type 0 where
    there : is_at u o j ≡ true
    other : (u == t) ≡ false

  another : (o u : ℕ) (xs : List ℕ) → is_at u o j ≡ true → has xs u ≡ true → has xs t ≡ false → Another o u
  another o u xs a h g = record { there = a; other = by (u == t) refl }
    where
      no_both : (b : Bool) → b ≡ true → b ≡ false → ⊥
      no_both b x y = cc

      by : (b : Bool) → (u == t) ≡ b → (u == t) ≡ false
      by false e = e
      by true e = absurd (no_both (has xs t) (ap (has xs) (sym (eqb-true u t e)) ∙ h) g)

  next_same : (o : ℕ) (i : Journal) → ((u : ℕ) → Another o u → is_at u o i ≡ true) → (ss : List ℕ) (ws : List (ℕ × ℕ)) → stacked o j ≡ ss → waiting o j ≡ ws → SamePlaces i (i ++ admission sites p o i (successor ss ws))
  next_same o i here (u ∷ ss) ws h g =
      let x = has_first (stacked o j) ss u h in
      remains i _ refl (here u (another o u (stacked o j) (there_stacked u o j x) x (stacked_not o)))
  next_same o i here [] (w ∷ ws) h g =
      let x = has_first (map (λ w. w.0) (waiting o j)) (map (λ w. w.0) ws) w.0 (ap (map (λ (w : ℕ × ℕ). w.0)) g) in
      remains i _ refl (here w.0 (another o w.0 (map (λ w. w.0) (waiting o j)) (there_waiting w.0 o j x) x (waits_not o)))
  next_same o i here [] [] h g = no_entries i

  -- the task goes out for good, and whoever is next comes in
  out : (e : Entry) → Departs t e.object j (j ++ e ∷ []) → Departs t e.object j (j ++ left_by sites j p e.object e)
  out e d =
      first_departs t e.object j e _ d (next_same e.object (j ++ e ∷ []) (λ u x. d.at u e.object ∙ still_there u x) (stacked e.object j) (waiting e.object j) refl refl)
    where
      still_there : (u : ℕ) → Another e.object u → (is_at u e.object j && not ((u == t) && (e.object == e.object))) ≡ true
      still_there u x = ap (λ b. b && not ((u == t) && (e.object == e.object))) x.there ∙ ap (λ b. not (b && (e.object == e.object))) x.other

  waits : (e : Entry) → SamePlaces j (j ++ e ∷ []) → SamePlaces j (j ++ left_by sites j p e.object e)
  waits e d =
      first_same j e _ d (next_same e.object (j ++ e ∷ []) (λ u x. d.at u e.object ∙ x.there) (stacked e.object j) (waiting e.object j) refl refl)

  -- calls

  met_same : (o m u : ℕ) (i : Journal) (c : Option ℕ) → is_at u o i ≡ true → is_at t o i ≡ true → SamePlaces i (i ++ met_by p t o u m c)
  met_same o m u i None h l = no_entries i
  met_same o zero u i (Some clause) h l =
      let x = remains i (admit p u o 3 clause) refl h in
      first_same i (admit p u o 3 clause) (push p t o ∷ []) x (remains (i ++ admit p u o 3 clause ∷ []) (push p t o) refl (x.at t o ∙ l))
  met_same o (suc m) u i (Some clause) h l = remains i (admit p t o 1 0) refl l

  called_same : (o m : ℕ) (i : Journal) (within : List ℕ) (opened : List Entry) → open_at o j ≡ opened → is_at t o i ≡ true → ((u : ℕ) → is_at u o j ≡ true → is_at u o i ≡ true) → SamePlaces i (i ++ called sites p t o m within opened)
  called_same o m i [] [] h l f = remains i (admit p t o 0 0) refl l
  called_same o m i (x ∷ xs) [] h l f = no_entries i
  called_same o m i [] (a ∷ rest) h l f =
      let x = (s.doors o).acceptor a rest h in
      met_same o m a.task i _ (f a.task (there_stacked a.task o j (has_first (stacked o j) x.below a.task x.top))) l
  called_same o m i (y ∷ ys) (a ∷ rest) h l f =
      let x = (s.doors o).acceptor a rest h in
      met_same o m a.task i _ (f a.task (there_stacked a.task o j (has_first (stacked o j) x.below a.task x.top))) l

  calls : (e : Entry) (m : ℕ) → Arrives t e.object j (j ++ e ∷ []) → Arrives t e.object j (j ++ e ∷ called sites p t e.object m (inside e.object j) (open_at e.object j))
  calls e m d =
      first_arrives t e.object j e _ d (called_same e.object m (j ++ e ∷ []) (inside e.object j) (open_at e.object j) refl (d.at t e.object ∙ ap (λ b. is_at t e.object j || b) (ap (λ b. b && (e.object == e.object)) (self_test t) ∙ self_test e.object) ∙ or_true (is_at t e.object j)) (λ u h. d.at u e.object ∙ ap (λ b. b || ((u == t) && (e.object == e.object))) h))

  -- accept statements

  took_same : (o site mask : ℕ) (b : Bool) (m u : ℕ) → is_at t o j ≡ true → is_at u o j ≡ true → SamePlaces j (j ++ took p t k o site mask b m u)
  took_same o site mask b zero u h g =
      let x = still j (accept_entry p t k o site mask b 3) refl in
      first_same j _ (push p u o ∷ []) x (remains (j ++ accept_entry p t k o site mask b 3 ∷ []) (push p u o) refl (x.at u o ∙ g))
  took_same o site mask b (suc m) u h g =
      let x = remains j (accept_entry p t k o site mask b 1) refl h in
      first_same j _ (admit p u o 1 0 ∷ []) x (remains (j ++ accept_entry p t k o site mask b 1 ∷ []) (admit p u o 1 0) refl (x.at u o ∙ g))

  accepted_same : (o site mask : ℕ) (b : Bool) (x : Option Met) → next_met sites site mask o j ≡ x → is_at t o j ≡ true → SamePlaces j (j ++ accepted p t k o site mask b x)
  accepted_same o site mask b (Some x) h g =
      let n = met_counts (offers sites site mask) (waiting o j) x h in
      took_same o site mask b x.member x.task g (there_waiting x.task o j (some_of (map (λ w. w.0) (waiting o j)) x.task n.0 n.1))
  accepted_same o site mask true None h g = still j (accept_entry p t k o site mask true 2) refl
  accepted_same o site mask false None h g = remains j (accept_entry p t k o site mask false 0) refl g

  -- conditions

  blocked_there : (o c : ℕ) (w : ℕ × ℤ) (ws : List (ℕ × ℤ)) → blocked o c j ≡ w ∷ ws → is_at w.0 o j ≡ true
  blocked_there o c w ws h =
      there_blocked w.0 o j (blocked_has (blocked_at o j) c w.0 (has_first (map (λ x. x.0) (blocked o c j)) (map (λ x. x.0) ws) w.0 (ap (map (λ (x : ℕ × ℤ). x.0)) h)))

  signalled_same : (o c : ℕ) (ws : List (ℕ × ℤ)) → blocked o c j ≡ ws → SamePlaces j (j ++ signalled p t k o c ws)
  signalled_same o c [] h = still j _ refl
  signalled_same o c (w ∷ ws) h =
      let e : Entry = asking kind.Signal p t k o (pos c) (pos 1) in
      let x = still j (asking kind.Signal p t k o (pos c) (pos 1)) refl in
      first_same j _ (push p w.0 o ∷ []) x (remains (j ++ asking kind.Signal p t k o (pos c) (pos 1) ∷ []) (push p w.0 o) refl (x.at w.0 o ∙ blocked_there o c w ws h))

  handed_same : (o c : ℕ) (ws : List (ℕ × ℤ)) → blocked o c j ≡ ws → is_at t o j ≡ true → SamePlaces j (j ++ handed p t k o c ws)
  handed_same o c [] h g = still j (asking kind.SignalBlock p t k o (pos c) (pos 0)) refl
  handed_same o c (w ∷ ws) h g =
      let x = remains j (asking kind.SignalBlock p t k o (pos c) (pos 1)) refl g in
      first_same j _ (admit p w.0 o 4 0 ∷ []) x (remains (j ++ asking kind.SignalBlock p t k o (pos c) (pos 1) ∷ []) (admit p w.0 o 4 0) refl (x.at w.0 o ∙ blocked_there o c w ws h))

  front_same : (o c : ℕ) (ws : List (ℕ × ℤ)) → SamePlaces j (j ++ front p t k line o c ws)
  front_same o c [] = still j _ refl
  front_same o c (w ∷ ws) = still j _ refl

  poll_same : (mask : ℕ) (x : Option (ℕ × ℤ × ℤ)) → SamePlaces j (j ++ poll_entry p t k mask x ∷ [])
  poll_same mask None = still j _ refl
  poll_same mask (Some x) = still j _ refl

  either_same : (b : Bool) (e f : Entry) → SamePlaces j (j ++ e ∷ []) → SamePlaces j (j ++ f ∷ []) → SamePlaces j (j ++ or_fault b e f)
  either_same true e f h g = h
  either_same false e f h g = g

  -- while the run goes on there is no fault
  unless_over : (P : Journal → Type 0) (b : Bool) (e f : Entry) → is_ending f.kind ≡ true → P (j ++ e ∷ []) → is_over (j ++ or_fault b e f) ≡ false → P (j ++ or_fault b e f)
  unless_over P true e f n h on = h
  unless_over P false e f n h on = absurd (no_both (is_over (j ++ f ∷ [])) (over_by j f n) on)
    where
      no_both : (c : Bool) → c ≡ true → c ≡ false → ⊥
      no_both c x y = cc

  gone_off : (e : Entry) → e.task ≡ t → Departs e.task e.object j (j ++ e ∷ []) → Departs t e.object j (j ++ e ∷ [])
  gone_off e h d = subst (λ v. Departs v e.object j (j ++ e ∷ [])) h d

  pub row_places : (r : Request) → Fits opts sites j t r → is_over (j ++ row opts sites input j p t k line r) ≡ false → PlacesBehind t j r (j ++ row opts sites input j p t k line r)
  row_places (ask.Make class) f on = unless_over (Arrives t (object_count j) j) (nat_lt (object_count j) OBJECTS) _ _ refl (arrives j _ refl) on
  row_places (ask.Made o) f on = out (asking kind.Made p t k o (pos 0) (pos 0)) (departs j _ refl (waits_not o) (stacked_not o) (blocked_not o))
  row_places (ask.Spawn o) f on =
      unless_over (Spawns t (task_count j) o j) (nat_lt (task_count j) TASKS) _ _ refl (spawned j p t k o (task_count j) (waits_not o) (stacked_not o) (blocked_not o)) on
  row_places (ask.Call o m) f on = calls (asking kind.Call p t k o (pos m) (pos 0)) m (arrives j _ refl)
  row_places (ask.Leave o failed) f on = out (asking kind.Leave p t k o _ (pos 0)) (departs j _ refl (waits_not o) (stacked_not o) (blocked_not o))
  row_places (ask.Accept o site mask) f on =
      accepted_same o site mask (site_at sites site).has_else (next_met sites site mask o j) refl (there_inside t o j f.0.inside)
  row_places (ask.Wait o c n) f on = waits (asking kind.Wait p t k o (pos c) n) (remains j _ refl (there_inside t o j f.inside))
  row_places (ask.Signal o c) f on = signalled_same o c (blocked o c j) refl
  row_places (ask.SignalBlock o c) f on = handed_same o c (blocked o c j) refl (there_inside t o j f.inside)
  row_places (ask.Empty o c) f on = still j _ refl
  row_places (ask.Front o c) f on = front_same o c (blocked o c j)
  row_places (ask.Raise o event x y) f on = either_same _ _ _ (still j _ refl) (still j _ refl)
  row_places (ask.Poll mask) f on = poll_same mask (oldest_in mask (pending t j))
  row_places ask.Yield f on = still j _ refl
  row_places ask.Slice f on = still j _ refl
  row_places (ask.Print n items) f on = prints_same j p t k (take n items)
  row_places (ask.Read form) f on = still j _ refl
  row_places ask.Fail f on = still j _ refl
  row_places ask.Cluster f on = either_same _ _ _ (still j _ refl) (still j _ refl)
  row_places (ask.ClusterEnd c) f on = either_same _ _ _ (still j _ refl) (still j _ refl)
  row_places (ask.Processor c) f on = either_same _ _ _ (still j _ refl) (still j _ refl)
  row_places (ask.ProcessorEnd q) f on = still j _ refl
  row_places (ask.Migrate c) f on = still j _ refl
  row_places ask.End f on =
      out (asking kind.End p t k (own_object t j) (pos 0) (pos 0)) (departs j _ refl (waits_not (own_object t j)) (stacked_not (own_object t j)) (blocked_not (own_object t j)))
  row_places (ask.Gone o) f on = departs j (asking kind.Gone p t k o (pos 0) (pos 0)) refl (waits_not o) (stacked_not o) (blocked_not o)
  row_places (ask.Fault n) f on = still j _ refl
