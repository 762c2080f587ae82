-- Marks and operands, and to-do lists that are left.
use Rattle.std.proofs.Common.{◌≡◌, ℕ, zero, suc, ◌<◌, inl, inr, Bool, true, false, List, [], ◌∷◌, drop, Option, Some, None, refl, sym, ap, subst, arith}
use Rattle.std.specs.Prelude.{ℤ, pos, negsuc, slice_set, nat_lt}
use Rattle.std.proofs.lemmas.Bool.{ltb-true}
use Rattle.uc_tree.specs.Source as src
use Rattle.uc_tree.specs.Source.{Expr, CleanUp, Stmt, Stmts, EventStmt, TaskStmt, Raised, Purpose, Source}
use Rattle.uc_machine.specs.declared.exec.Exec.{Exec}
use Rattle.uc_machine.specs.declared.exec.Owner.TheVariants.{Frame}
use Rattle.uc_machine.specs.Quiet.{behind_body}
use Rattle.uc_machine.specs.Pieces as piece
use Rattle.uc_machine.specs.Pieces.{Value, Todo, Active, top, below, further}
use Rattle.uc_state_laws.specs.Counted.{params}
use Rattle.uc_typing.specs.Typing.{Ty, Cell, Obj, Table}
use Rattle.uc_life_laws.specs.Things.{Few, AtField, IsFor, InTodo, Stands, lies, inside}
use Rattle.uc_life_laws.specs.Marks.{Outward, Free}
use Rattle.uc_life_laws.specs.Ending.{Spot, OfVariable, OfField}
use Rattle.uc_place_laws.specs.OlderResting.{AllWait}
use Rattle.uc_place_laws.proofs.AsideKeeping.{tested}
use Rattle.uc_putting_laws.specs.CleanedSpots.{Site, One, Each, Under, site_spot, AnyPlace, HasSome, IsOver, IsHollow, Reach, apart, IsOf, IsIn}
use Rattle.uc_putting_laws.specs.ObjectsAtHand.{LiesUnder, same_place, further_on, BelongsBelow, in_frame}
use Rattle.uc_putting_laws.specs.Seats.{IsSeated}
use Rattle.uc_putting_laws.specs.Calling.{opens_object, PlainExpr, PlaceAt, Binds, CallsAt, MakesAt, MakesEach, EndsAt, EndsEach, EndsNumber, Evaluates, FillsBy, SweepsBy, CleansBy, RaisesBy, CallingStmt, CallingEvent, CallingTask, Opening}
use Rattle.uc_putting_laws.specs.Putting.{Setting, Around, around, Mark, Any, At, Homed, Counter, rest, rests, anys, FirstUnder, FirstAt, FirstHome, FirstCounter, Located, Enters, Loads, spot_at, StandsAt, HomedAt, Holds, after, made_marks, Ok, Left, Runs, Waits}
use Rattle.uc_putting_laws.proofs.ObjectsWithin.{below_more, under_below}

-- operands

module _ (few : Few) (A : Around) (many : ℕ) where
  pub holds_below : (ms : List Mark) (vs : List Value) → Holds few A many ms vs → Holds few A many (rest ms) (below vs)
  holds_below [] vs h = tt
  holds_below (m ∷ ms) vs h = h.1

  pub holds_spread : (ms : List Mark) (vs : List Value) → Holds few A many ms vs → Holds few A many ms (top vs ∷ below vs)
  holds_spread [] vs h = tt
  holds_spread (m ∷ ms) vs h = h

  -- of the first, where it is the place of a spot, or the object that is at home there
  pub at_of : (ms : List Mark) (vs : List Value) → Holds few A many ms vs → (F : Site → Type 0) → FirstAt ms F → (x : Site) × StandsAt few A many x (top vs) × F x
  at_of (At x ∷ ms) vs h F k = (x, h.0, k)
  at_of [] vs h F k = absurd k
  at_of (Any ∷ ms) vs h F k = absurd k
  at_of (Homed p ∷ ms) vs h F k = absurd k
  at_of (Counter ∷ ms) vs h F k = absurd k

  -- and where it lies at a spot or further, one of so many
  pub under_of : (ms : List Mark) (vs : List Value) → Holds few A many ms vs → (F : ℕ → Spot → Type 0) → FirstUnder ms F → (n : ℕ) × (p : Spot) × ((0 < n) × LiesUnder (spot_at few A p) (top vs)) × F n p
  under_of (At (Under o n p) ∷ ms) vs h F k = (n, p, h.0, k)
  under_of (At (One p) ∷ ms) vs h F k = absurd k
  under_of (At (Each n p) ∷ ms) vs h F k = absurd k
  under_of [] vs h F k = absurd k
  under_of (Any ∷ ms) vs h F k = absurd k
  under_of (Homed p ∷ ms) vs h F k = absurd k
  under_of (Counter ∷ ms) vs h F k = absurd k

  pub home_of : (ms : List Mark) (vs : List Value) → Holds few A many ms vs → (F : Site → Type 0) → FirstHome ms F → (x : Site) × HomedAt few A many x (top vs) × F x
  home_of (Homed x ∷ ms) vs h F k = (x, h.0, k)
  home_of [] vs h F k = absurd k
  home_of (Any ∷ ms) vs h F k = absurd k
  home_of (At p ∷ ms) vs h F k = absurd k
  home_of (Counter ∷ ms) vs h F k = absurd k

drop_below : (n : ℕ) (vs : List Value) → drop (suc n) vs ≡ below (drop n vs)
drop_below zero [] = refl
drop_below zero (v ∷ vs) = refl
drop_below (suc n) [] = refl
drop_below (suc n) (v ∷ vs) = drop_below n vs

module _ (few : Few) (A : Around) (many : ℕ) where
  pub holds_drop : (k : ℕ) (ms : List Mark) (vs : List Value) → Holds few A many ms vs → Holds few A many (rests k ms) (drop k vs)
  holds_drop zero ms [] h = h
  holds_drop zero ms (v ∷ vs) h = h
  holds_drop (suc k) ms vs h =
      subst (Holds few A many (rest (rests k ms))) (sym (drop_below k vs)) (holds_below few A many (rests k ms) (drop k vs) (holds_drop k ms vs h))

  -- so many operands of which nothing is known
  pub holds_anys : (k : ℕ) (ms : List Mark) (vs : List Value) → Holds few A many ms (drop k vs) → Holds few A many (anys k ms) vs
  holds_anys zero ms [] h = h
  holds_anys zero ms (v ∷ vs) h = h
  holds_anys (suc k) ms vs h = holds_anys k (Any ∷ ms) vs (tt, subst (Holds few A many ms) (drop_below k vs) h)

pub rests_anys : (n : ℕ) (ms : List Mark) → rests n (anys n ms) ≡ ms
rests_anys zero ms = refl
rests_anys (suc n) ms = ap rest (rests_anys n (Any ∷ ms))

-- what is written to an operand leaves those below
pub drop_set : (n : ℕ) (v : Value) (vs : List Value) → drop (suc n) (slice_set vs n v) ≡ drop (suc n) vs
drop_set n v [] = refl
drop_set zero v (w ∷ vs) = refl
drop_set (suc n) v (w ∷ vs) = drop_set n v vs

pub drop_one : (n : ℕ) (vs : List Value) → below (drop n vs) ≡ drop (suc n) vs
drop_one n vs = sym (drop_below n vs)

-- an operand that has one is there once it is written
pub set_top : (n : ℕ) (v : Value) (vs : List Value) → (drop n vs ≡ [] → ⊥) → top (drop n (slice_set vs n v)) ≡ v
set_top zero v [] h = absurd (h refl)
set_top (suc n) v [] h = absurd (h refl)
set_top zero v (w ∷ vs) h = refl
set_top (suc n) v (w ∷ vs) h = set_top n v vs h

-- places

-- what stands at a site lies at its spot, or further
pub stands_under : (few : Few) (A : Around) (many : ℕ) (x : Site) (v : Value) → StandsAt few A many x v → LiesUnder (spot_at few A (site_spot x)) v
stands_under few A many (One p) v e = subst (LiesUnder (spot_at few A p)) (sym e) same_place
stands_under few A many (Each n p) v e = subst (LiesUnder (spot_at few A p)) (sym e.1) (further_on (piece.At src.Binding many) same_place)
stands_under few A many (Under o n p) v e = e.1

-- one of so many is there
pub stands_some : (few : Few) (A : Around) (many : ℕ) (x : Site) (v : Value) → StandsAt few A many x v → HasSome x
stands_some few A many (One p) v e = tt
stands_some few A many (Each n p) v e = let l = e.0 in omega (arith, l)
stands_some few A many (Under o n p) v e = e.0

-- it is the execution's own, in a frame below the next one, where the object at hand is, if fields of that are named
module _ (few : Few) (A : Around) (made : Reach) (own : made.builds ≡ true → BelongsBelow few A.exec A.frame A.this) (d : ℕ) (le : A.frame < d) where
  pub spot_below : (p : Spot) → IsOf made p → BelongsBelow few A.exec d (spot_at few A p)
  spot_below (OfVariable k) i = in_frame refl le
  spot_below (OfField s f) i =
      under_below few A.exec d A.this (further (piece.FieldAt s f) A.this) (further_on (piece.FieldAt s f) same_place) (below_more few A.exec A.frame d (omega (arith, le)) A.this (own i))

  pub under_spot : (p : Spot) → IsOf made p → (v : Value) → LiesUnder (spot_at few A p) v → BelongsBelow few A.exec d v
  under_spot p i v h = under_below few A.exec d (spot_at few A p) v h (spot_below p i)

-- so there is one among the operands that is a place at a site
none_there : (few : Few) (n : Exec) (d : ℕ) → BelongsBelow few n d piece.Nothing → ⊥
none_there few n d h = elim h [ ]

pub site_there : (few : Few) (A : Around) (made : Reach) (many : ℕ) → (made.builds ≡ true → BelongsBelow few A.exec A.frame A.this) → (x : Site) → (vs : List Value) → IsIn made x → StandsAt few A many x (top vs) → vs ≡ [] → ⊥
site_there few A made many own x vs i e q =
    none_there few A.exec (suc A.frame) (subst (BelongsBelow few A.exec (suc A.frame)) (ap top q) (under_spot few A made own (suc A.frame) (omega arith) (site_spot x) i (top vs) (stands_under few A many x (top vs) e)))

-- an index that an array has; it is this number
abbrev pub OfIndex : ℕ → Option ℕ → Type 0
OfIndex n None = Unit {0}
OfIndex n (Some i) = i < n

abbrev pub IsIndex : ℕ → Option ℕ → Type 0
IsIndex m None = Unit {0}
IsIndex m (Some i) = i ≡ m

pub index_below : (n : ℕ) (z : ℤ) → OfIndex n (piece.index_in n z)
index_below n (pos i) = tested (OfIndex n) (nat_lt i n) (Some i) None (λ e. ltb-true i n e) tt
index_below n (negsuc i) = tt

pub index_is : (n m : ℕ) → IsIndex m (piece.index_in n (pos m))
index_is n m = tested (IsIndex m) (nat_lt m n) (Some m) None (λ e. refl) tt

-- the newest operand, where it is the number of the elements that stand
pub counter_of : (few : Few) (A : Around) (many : ℕ) (ms : List Mark) (vs : List Value) → Holds few A many ms vs → FirstCounter ms → top vs ≡ piece.Number (pos many)
counter_of few A many (Counter ∷ ms) vs h k = h.0
counter_of few A many [] vs h k = absurd k
counter_of few A many (Any ∷ ms) vs h k = absurd k
counter_of few A many (At x ∷ ms) vs h k = absurd k
counter_of few A many (Homed x ∷ ms) vs h k = absurd k

-- behind what a routine does nothing is cleaned up but what its caller has to clean up
module _ (t : Table) (few : Few) (n : Exec) where
  no_marks : (f : ℕ) (this : Value) (p : Purpose) (line : ℕ) (w : Value) (a : Ty) → InTodo (IsFor t (Frame n f) this) (AtField t (Frame n f) this) (behind_body p line) w a → ⊥
  no_marks f this src.TaskMain line w a m = m
  no_marks f this src.CoroutineMain line w a m = m
  no_marks f this src.Procedure line w a m = m
  no_marks f this src.Function line w a m = m
  no_marks f this src.Builder line w a m = m

  stands_more : (K L : Value → Ty → Type 0) → ((w : Value) (a : Ty) → K w a → L w a) → (b : Ty) (v : Value) → Stands t few K b v → Stands t few L b v
  stands_more K L f b v (lies {w = w} {a} k h) = lies (f w a k) h
  stands_more K L f b v (inside {o = o} {c} m k h) = inside m (stands_more K L f (Cell (Obj c)) (few.home o) k) h

  pub free_fewer : (K L : Value → Ty → Type 0) → ((w : Value) (a : Ty) → K w a → L w a) → (o : ℕ) → Free t few o L → Free t few o K
  free_fewer K L f o h c k = h c (stands_more K L f (Cell (Obj c)) (few.home o) k)

  pub free_begun : (a : Active) (older : List Active) (todo : List Todo) (vs : List Value) (v : Value) (f : ℕ) (p : Purpose) (line o : ℕ) → Free t few o (Outward t n a.frame a.this older todo) → Free t few o (Outward t n f v ((record a { control = todo; operands = vs }) ∷ older) (behind_body p line))
  free_begun a older todo vs v f p line o h =
      free_fewer (Outward t n f v ((record a { control = todo; operands = vs }) ∷ older) (behind_body p line)) (Outward t n a.frame a.this older todo) by o h
    where
      by : (w : Value) (b : Ty) → Outward t n f v ((record a { control = todo; operands = vs }) ∷ older) (behind_body p line) w b → Outward t n a.frame a.this older todo w b
      by w b (inl m) = absurd (no_marks f v p line w b m)
      by w b (inr m) = m

-- a scope of the object at hand opens in what holds that
module _ (g : Setting) where
  pub opening_opens : (made : Reach) (ss : Stmts) → Opening g.table g.source g.special made ss → opens_object ss ≡ true
  opening_opens made (src.Scoped src.Ends ss) h = refl
  opening_opens made (src.Scoped (src.Frees r) ss) h = refl
  opening_opens made ss h = absurd h

  -- a place calls nothing
  pub place_plain : (made : Reach) (P : ℕ → Spot → Type 0) (e : Expr) → PlaceAt g.table g.source g.special made P e → PlainExpr g.table g.source g.special e
  place_plain made P (src.Variable k) h = tt
  place_plain made P (src.OfObject (src.OwnField s i)) h = (tt, tt)
  place_plain made P (src.Element n s e i) h = (place_plain made (λ m p. P n p) e h.0, h.1)
  place_plain made P e h = absurd h

-- code that names fewer spots, for fewer sites
module _ (t : Table) (source : Source) (special : ℕ → Bool) (r q : Reach) (wide : (p : Spot) → IsOf r p → IsOf q p) where
  pub place_more : (P Q : ℕ → Spot → Type 0) → ((n : ℕ) (p : Spot) → IsOf r p → P n p → Q n p) → (e : Expr) → PlaceAt t source special r P e → PlaceAt t source special q Q e
  place_more P Q f (src.Variable k) h = (wide (OfVariable k) h.0, f 1 (OfVariable k) h.0 h.1)
  place_more P Q f (src.OfObject (src.OwnField s i)) h = (wide (OfField s i) h.0, f 1 (OfField s i) h.0 h.1)
  place_more P Q f (src.Element n s e i) h = (place_more (λ m p. P n p) (λ m p. Q n p) (λ m p. f n p) e h.0, h.1)
  place_more P Q f e h = absurd h

  module _ (P Q : Site → Type 0) (f : (x : Site) → IsIn r x → P x → Q x) where
    pub calls_more : (e : Expr) → CallsAt t source special r P e → CallsAt t source special q Q e
    calls_more (src.OfObject (src.CallOn n x args)) h = (h.0, place_more (λ m p. P (Under (t.routine n).this m p)) (λ m p. Q (Under (t.routine n).this m p)) (λ m p. f (Under (t.routine n).this m p)) x h.1, h.2)
    calls_more (src.OfObject (src.CallUnwritten n x)) h = (h.0, place_more (λ m p. P (Under (t.routine n).this m p)) (λ m p. Q (Under (t.routine n).this m p)) (λ m p. f (Under (t.routine n).this m p)) x h.1)
    calls_more e h = absurd h

    makes_more : (e : Expr) → MakesAt t source special r P e → MakesAt t source special q Q e
    makes_more (src.OfObject (src.MakeOn c n written (src.Variable k) args)) h = (f (One (OfVariable k)) h.1 h.0, wide (OfVariable k) h.1, h.2)
    makes_more (src.OfObject (src.MakeOn c n written (src.OfObject (src.OwnField s i)) args)) h = (f (One (OfField s i)) h.1 h.0, wide (OfField s i) h.1, h.2)
    makes_more e h = absurd h

    makes_each_more : (e : Expr) → MakesEach t source special r P e → MakesEach t source special q Q e
    makes_each_more (src.OfObject (src.MakeOn c n written (src.Element m src.Binding (src.Variable k) (src.OfObject src.Counted)) args)) h = (f (Each m (OfVariable k)) h.1 h.0, wide (OfVariable k) h.1, h.2)
    makes_each_more (src.OfObject (src.MakeOn c n written (src.Element m src.Binding (src.OfObject (src.OwnField s i)) (src.OfObject src.Counted)) args)) h = (f (Each m (OfField s i)) h.1 h.0, wide (OfField s i) h.1, h.2)
    makes_each_more e h = absurd h

    pub ends_more : (e : Expr) → EndsAt t source special r P e → EndsAt t source special q Q e
    ends_more (src.OfObject (src.EndOn n written (src.Load (src.Variable k)))) h = (f (One (OfVariable k)) h.1 h.0, wide (OfVariable k) h.1, h.2)
    ends_more (src.OfObject (src.EndOn n written (src.Load (src.OfObject (src.OwnField s i))))) h = (f (One (OfField s i)) h.1 h.0, wide (OfField s i) h.1, h.2)
    ends_more e h = absurd h

    ends_each_more : (e : Expr) → EndsEach t source special r P e → EndsEach t source special q Q e
    ends_each_more (src.OfObject (src.EndOn n written (src.Load (src.Element m src.Binding (src.Variable k) (src.OfObject src.Counted))))) h = (f (Each m (OfVariable k)) h.1 h.0, wide (OfVariable k) h.1, h.2)
    ends_each_more (src.OfObject (src.EndOn n written (src.Load (src.Element m src.Binding (src.OfObject (src.OwnField s i)) (src.OfObject src.Counted))))) h = (f (Each m (OfField s i)) h.1 h.0, wide (OfField s i) h.1, h.2)
    ends_each_more e h = absurd h

    pub number_more : (e : Expr) → EndsNumber t source special r P e → EndsNumber t source special q Q e
    number_more (src.OfObject (src.EndCluster (src.Load x))) h = place_more (λ m p. P (Under None m p)) (λ m p. Q (Under None m p)) (λ m p. f (Under None m p)) x h
    number_more (src.OfObject (src.EndProcessor (src.Load x))) h = place_more (λ m p. P (Under None m p)) (λ m p. Q (Under None m p)) (λ m p. f (Under None m p)) x h
    number_more e h = absurd h

  binds_more : (e : Expr) → Binds t source special r e → Binds t source special q e
  binds_more (src.OfObject (src.Bind x e)) h = (place_more AnyPlace AnyPlace (λ n p i y. y) x h.0, h.1)
  binds_more e h = absurd h

  module _ (P Q : Site → Type 0) (f : (x : Site) → IsIn r x → P x → Q x) where
    pub fills_more : (e : Expr) → FillsBy t source special r P e → FillsBy t source special q Q e
    fills_more e (inl h) = inl (binds_more e h)
    fills_more e (inr (inl h)) = inr (inl (calls_more P Q f e h))
    fills_more e (inr (inr h)) = inr (inr (makes_each_more P Q f e h))

    pub sweeps_more : (e : Expr) → SweepsBy t source special r P e → SweepsBy t source special q Q e
    sweeps_more e (inl h) = inl (number_more P Q f e h)
    sweeps_more e (inr (inl h)) = inr (inl (calls_more P Q f e h))
    sweeps_more e (inr (inr h)) = inr (inr (ends_each_more P Q f e h))

    pub evaluates_more : (e : Expr) → Evaluates t source special r P e → Evaluates t source special q Q e
    evaluates_more e (inl h) = inl h
    evaluates_more e (inr (inl h)) = inr (inl (binds_more e h))
    evaluates_more e (inr (inr (inl h))) = inr (inr (inl (calls_more P Q f e h)))
    evaluates_more e (inr (inr (inr h))) = inr (inr (inr (makes_more P Q f e h)))

  pub cleans_more : (c : CleanUp) → CleansBy t source special r c → CleansBy t source special q c
  cleans_more (src.Destroys e) (inl h) = inl (number_more (IsOver t (src.Destroys e)) (IsOver t (src.Destroys e)) (λ x i y. y) e h)
  cleans_more (src.Destroys e) (inr (inl h)) = inr (inl (calls_more (IsOver t (src.Destroys e)) (IsOver t (src.Destroys e)) (λ x i y. y) e h))
  cleans_more (src.Destroys e) (inr (inr h)) = inr (inr (ends_more (IsOver t (src.Destroys e)) (IsOver t (src.Destroys e)) (λ x i y. y) e h))
  cleans_more (src.DestroysAll n e) h = sweeps_more (IsOver t (src.DestroysAll n e)) (IsOver t (src.DestroysAll n e)) (λ x i y. y) e h
  cleans_more src.Forgets h = wide (OfField src.Last 0) h
  cleans_more c h = h

  raises_more : (x : Raised) → RaisesBy t source special r x → RaisesBy t source special q x
  raises_more (src.Plainly n) h = h
  raises_more (src.BuiltAt n k e) h = calls_more (IsHollow t k) (IsHollow t k) (λ x i y. y) e h
  raises_more (src.AgainFrom k) h = h

-- statements within others may stand where those of constructors may
pub apart_wide : (made : Reach) (p : Spot) → IsOf (apart made) p → IsOf made p
apart_wide made (OfVariable k) h = h
apart_wide made (OfField s i) h = absurd (cc)

module _ (t : Table) (source : Source) (special : ℕ → Bool) (made : Reach) where
  event_more : (a : EventStmt) → CallingEvent t source special (apart made) a → CallingEvent t source special made a
  event_more (src.Throw line x) h = raises_more t source special (apart made) made (apart_wide made) x h
  event_more (src.Raise line x) h = raises_more t source special (apart made) made (apart_wide made) x h
  event_more (src.RaiseAt line x e) h = (raises_more t source special (apart made) made (apart_wide made) x h.0, h.1)
  event_more a h = h

  task_more : (a : TaskStmt) → CallingTask t source special (apart made) a → CallingTask t source special made a
  task_more (src.SetUp n) h = let e : false ≡ true = h.0 in absurd (cc)
  task_more (src.Migrate line e) h = h
  task_more (src.Accept line site cs) h = h
  task_more a h = h

  pub stmt_more : (P Q : Site → Type 0) → ((x : Site) → IsIn (apart made) x → P x → Q x) → (a : Stmt) → CallingStmt t source special P (apart made) a → CallingStmt t source special Q made a
  stmt_more P Q f (src.Evaluate line e) h = evaluates_more t source special (apart made) made (apart_wide made) P Q f e h
  stmt_more P Q f (src.Fill line n b d) h = (fills_more t source special (apart made) made (apart_wide made) P Q f b h.0, sweeps_more t source special (apart made) made (apart_wide made) P Q f d h.1)
  stmt_more P Q f (src.OfEvents a) h = event_more a h
  stmt_more P Q f (src.OfTasks a) h = task_more a h
  stmt_more P Q f a h = h

-- to-do lists that are left

module _ (g : Setting) (A : Around) (made : Reach) where
  placed : (todo : List Todo) (P : ℕ → Spot → Type 0) → ((n : ℕ) (p : Spot) → P n p → Left g A made todo) → (e : Expr) → PlaceAt g.table g.source g.special made P e → Left g A made todo
  placed todo P next (src.Variable k) h = next 1 (OfVariable k) h.1
  placed todo P next (src.OfObject (src.OwnField s i)) h = next 1 (OfField s i) h.1
  placed todo P next (src.Element n s e i) h = placed todo (λ m p. P n p) (λ m p. next n p) e h.0
  placed todo P next e h = absurd h

  -- what is known of a place or not is left alike
  located : (e : Expr) (todo : List Todo) (f : Site → Mark) (ms : List Mark) → ((ms : List Mark) → Ok g A made ms todo → Left g A made todo) → Located e (λ x. Ok g A made (f x ∷ ms) todo) → Left g A made todo
  located (src.Variable k) todo f ms next h = next (f (One (OfVariable k)) ∷ ms) h
  located (src.OfObject (src.OwnField s i)) todo f ms next h = next (f (One (OfField s i)) ∷ ms) h
  located (src.Element n src.Binding (src.Variable k) (src.OfObject src.Counted)) todo f ms next h = next (f (Each n (OfVariable k)) ∷ ms) h
  located (src.Element n src.Binding (src.OfObject (src.OwnField s i)) (src.OfObject src.Counted)) todo f ms next h = next (f (Each n (OfField s i)) ∷ ms) h
  located e todo f ms next h = absurd h

  loaded : (e : Expr) (todo : List Todo) (ms : List Mark) → ((ms : List Mark) → Ok g A made ms todo → Left g A made todo) → Loads e (λ x. Ok g A made (Homed x ∷ ms) todo) → Left g A made todo
  loaded (src.Load e) todo ms next h = located e todo Homed ms next h
  loaded e todo ms next h = absurd h

  first_at : (ns : List Mark) (todo : List Todo) (F : Site → Type 0) → ((x : Site) → F x → Left g A made todo) → FirstAt ns F → Left g A made todo
  first_at (At x ∷ ns) todo F next h = next x h
  first_at [] todo F next h = absurd h
  first_at (Any ∷ ns) todo F next h = absurd h
  first_at (Homed x ∷ ns) todo F next h = absurd h
  first_at (Counter ∷ ns) todo F next h = absurd h

  enters : (C : Type 0) (n : ℕ) (k : src.Shape) (x : Site) (todo : List Todo) (F : Site → Type 0) → ((x : Site) → F x → Left g A made todo) → Enters C n k x F → Left g A made todo
  enters C n k (Under o m p) todo F next h = next (Under o n p) h
  enters C n src.Binding (One p) todo F next h = next (Each n p) h.1
  enters C n k x todo F next h = absurd h

  pub left : (ms : List Mark) (todo : List Todo) → Ok g A made ms todo → Left g A made todo
  left ms [] h = tt
  left ms (piece.Eval e ∷ todo) (n, inl h) = left (Any ∷ ms) todo h.1
  left ms (piece.Eval e ∷ todo) (n, inr (inl h)) = left (Any ∷ ms) todo h.1
  left ms (piece.Eval e ∷ todo) (n, inr (inr (inl h))) = left (Any ∷ ms) todo h.1
  left ms (piece.Eval e ∷ todo) (n, inr (inr (inr (inl h)))) = left (Any ∷ ms) todo h.1
  left ms (piece.Eval e ∷ todo) (n, inr (inr (inr (inr (inl h))))) = placed todo (λ n p. Ok g A made (At (Under None n p) ∷ ms) todo) (λ n p k. left (At (Under None n p) ∷ ms) todo k) e h
  left ms (piece.Eval e ∷ todo) (n, inr (inr (inr (inr (inr (inl h)))))) = located e todo At ms (λ ns k. left ns todo k) h
  left ms (piece.Eval e ∷ todo) (n, inr (inr (inr (inr (inr (inr (inl h))))))) = loaded e todo ms (λ ns k. left ns todo k) h.1
  left ms (piece.Eval e ∷ todo) (n, inr (inr (inr (inr (inr (inr (inr (inl h)))))))) = left (Any ∷ ms) todo h.1
  left ms (piece.Eval e ∷ todo) (n, inr (inr (inr (inr (inr (inr (inr (inr (inl h))))))))) = left (Any ∷ ms) todo h.1
  left ms (piece.Eval e ∷ todo) (n, inr (inr (inr (inr (inr (inr (inr (inr (inr (inl h)))))))))) = left (Any ∷ ms) todo h.1
  left ms (piece.Eval e ∷ todo) (n, inr (inr (inr (inr (inr (inr (inr (inr (inr (inr h)))))))))) = left (Counter ∷ ms) todo h.1
  left ms (piece.LoadNow ∷ todo) (inl h) = left (Any ∷ rest ms) todo h
  left ms (piece.LoadNow ∷ todo) (inr h) = first_at ms todo (λ x. Ok g A made (Homed x ∷ rest ms) todo) (λ x k. left (Homed x ∷ rest ms) todo k) h.1
  left ms (piece.ElementNow n s ∷ todo) (inl h) = left (Any ∷ rest (rest ms)) todo h
  left ms (piece.ElementNow n s ∷ todo) (inr h) = first_at (rest ms) todo (λ x. Enters (FirstCounter ms) n s x (λ y. Ok g A made (At y ∷ rest (rest ms)) todo)) (λ x k. enters (FirstCounter ms) n s x todo (λ y. Ok g A made (At y ∷ rest (rest ms)) todo) (λ y l. left (At y ∷ rest (rest ms)) todo l) k) h
  left ms (piece.MakeNow c r ∷ todo) h = first_at (rests (params g.source r) ms) todo (λ x. IsIn made x × Ok g A made (made_marks g r (Homed x) ms) todo) (λ x k. left (made_marks g r (Homed x) ms) todo k.1) h
  left ms (piece.BindMadeNow c r ∷ todo) h = first_at (rests (params g.source r) (rest ms)) todo (λ x. IsIn made x × Ok g A made (made_marks g r (Homed x) (rest ms)) todo) (λ x k. left (made_marks g r (Homed x) (rest ms)) todo k.1) h
  left ms (piece.Exit w ∷ todo) h = h
  left ms (piece.Unwind ∷ todo) h = h
  left ms (piece.InLoop o t e b ∷ todo) h = h
  left ms (piece.InWhole ∷ todo) h = h.1
  left ms (piece.Clean c ∷ todo) h = h
  left ms (piece.FillNow n b d ∷ todo) h = h
  left ms (piece.Sweep e ∷ todo) h = h
  left ms (piece.Part c ∷ todo) h = h
  left ms (piece.Guard hs ∷ todo) h = h
  left ms (piece.Finish ∷ todo) h = h.1
  left ms (piece.FinishCoroutine ∷ todo) h = h.1
  left ms (p ∷ todo) h = left (after g p ms) todo h.1

  -- what stands behind the first piece
  pub left_tail : (p : Todo) (todo : List Todo) → Left g A made (p ∷ todo) → Left g A made todo
  left_tail (piece.InLoop o t e b) todo h = left [] todo h.1
  left_tail piece.InWhole todo h = left [] todo h
  left_tail (piece.Clean c) todo h = left [] todo h.1
  left_tail (piece.FillNow n b d) todo h = left [] todo h.1
  left_tail (piece.Sweep e) todo h = left [] todo h.1
  left_tail (piece.Part c) todo h = left [] todo h.1
  left_tail (piece.Guard hs) todo h = left [] todo h.1
  left_tail piece.Finish todo h = left [] todo h
  left_tail piece.FinishCoroutine todo h = left [] todo h
  left_tail p todo h = h

-- of activations that wait, each before older ones
module _ (g : Setting) (n : Exec) where
  pub record ActiveLeft (older : List Active) (a : Active) : Type 0 where
    pub made : Reach
    pub rest : Left g (around n a older) made a.control
    pub seat : IsSeated g.table g.source g.special g.few made n older a.frame a.handles a.this

  abbrev pub AllLeft : List Active → Type 0
  AllLeft [] = Unit {0}
  AllLeft (a ∷ cs) = ActiveLeft cs a × AllLeft cs

  pub waits_left : (cs : List Active) → AllWait (Runs g) (Waits g) n cs → AllLeft cs
  waits_left [] h = tt
  waits_left (a ∷ cs) h = (record { made = h.0.made; rest = left g (around n a cs) h.0.made (Any ∷ h.0.marks) a.control h.0.ok; seat = h.0.this }, waits_left cs h.1)
