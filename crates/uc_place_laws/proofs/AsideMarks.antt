-- Marks and operands, places that lie aside, and to-do lists that are left.
use Rattle.std.proofs.Common.{◌≡◌, ℕ, zero, suc, ◌+◌, ◌≤◌, ◌⊎◌, inl, inr, Bool, true, List, [], ◌∷◌, drop, refl, sym, ap, subst, arith}
use Rattle.std.specs.Prelude.{slice_set}
use Rattle.std.proofs.Math.Nat.{min-le_right, le-min}
use Rattle.uc_tree.specs.Source as src
use Rattle.uc_tree.specs.Source.{Expr, Source, CleanUp, Stmt, Stmts}
use Rattle.uc_machine.specs.declared.exec.Exec.{Exec}
use Rattle.uc_machine.specs.declared.exec.Owner.{Owner}
use Rattle.uc_machine.specs.declared.exec.Owner.TheVariants.{Frame, Fields}
use Rattle.uc_machine.specs.Pieces as piece
use Rattle.uc_machine.specs.Pieces.{Link, Slot, At, Value, Number, Place, Running, Object, Nothing, LAST_ADDRESS, link_cells, address, further, Todo, Sort, Active, sort, top, below}
use Rattle.uc_state_laws.specs.There.{IsLoose, OfVariable, OfElements, OfEach, EachNext, IsBefore, OfBound, OpensBound, NextRest, NextDrop, NextCall, Pends}
use Rattle.uc_state_laws.specs.Counted.{params}
use Rattle.uc_place_laws.specs.OpeningLaws.{Awaited, AwaitedRest}
use Rattle.uc_place_laws.specs.Calling.{Calling, NoneCalled, EndsBefore}
use Rattle.uc_place_laws.specs.OlderResting.{AllWait}
use Rattle.uc_place_laws.proofs.OpeningMarks.{opens_more as plains_more}
use Rattle.uc_place_laws.specs.Siting.{Everywhere, PlainSingle, SitedAt, BuildsAt, Singly, SitedExpr, SitedStmt}
use Rattle.uc_place_laws.specs.Asides.{IsNearer, PendsBefore, OwnerAside, LiesAside, AwaitsBefore, IsNear, first, further_in, Sits, SitsAt, Mark, Any, Aside, Loose, Meets, Holds, rest, rests, anys, FirstAside, FirstLoose, IsTold, Free, Calm, after, Ok, Left, OkNow, Runs, Waits}

-- operands

module _ (Z : ℕ → ℕ → Type 0) (n : Exec) (f : ℕ) (this : Value) (older : List Active) where
  pub holds_below : (ms : List Mark) (vs : List Value) → Holds Z n f this older ms vs → Holds Z n f this older (rest ms) (below vs)
  holds_below [] vs h = tt
  holds_below (m ∷ ms) vs h = h.1

  pub holds_spread : (ms : List Mark) (vs : List Value) → Holds Z n f this older ms vs → Holds Z n f this older ms (top vs ∷ below vs)
  holds_spread [] vs h = tt
  holds_spread (m ∷ ms) vs h = h

  -- the number of a new object is what is known of it
  pub holds_told : (m : Mark) (k : ℕ) → IsTold m → Meets Z n f this older m (Object k)
  holds_told Any k h = tt
  holds_told Aside k h = absurd h
  holds_told Loose k h = tt

  pub holds_loose : (ms : List Mark) (vs : List Value) → Holds Z n f this older ms vs → FirstLoose ms → IsLoose (top vs)
  holds_loose [] vs h k = absurd k
  holds_loose (Any ∷ ms) vs h k = absurd k
  holds_loose (Aside ∷ ms) vs h k = absurd k
  holds_loose (Loose ∷ ms) vs h k = h.0

  pub holds_aside : (ms : List Mark) (vs : List Value) → Holds Z n f this older ms vs → FirstAside ms → LiesAside Z n older (top vs) × SitsAt Z n f this older (top vs)
  holds_aside [] vs h k = absurd k
  holds_aside (Any ∷ ms) vs h k = absurd k
  holds_aside (Aside ∷ ms) vs h k = h.0
  holds_aside (Loose ∷ ms) vs h k = absurd k

-- what is no place lies aside
module _ (Z : ℕ → ℕ → Type 0) (n : Exec) (older : List Active) where
  pub loose_aside : (v : Value) → IsLoose v → LiesAside Z n older v
  loose_aside (Number z) h = tt
  loose_aside (Place o p) h = absurd h
  loose_aside (Running e) h = tt
  loose_aside (Object o) h = tt
  loose_aside Nothing h = tt

drop_below : (n : ℕ) (vs : List Value) → drop (suc n) vs ≡ below (drop n vs)
drop_below zero [] = refl
drop_below zero (v ∷ vs) = refl
drop_below (suc n) [] = refl
drop_below (suc n) (v ∷ vs) = drop_below n vs

module _ (Z : ℕ → ℕ → Type 0) (n : Exec) (f : ℕ) (this : Value) (older : List Active) where
  pub holds_drop : (k : ℕ) (ms : List Mark) (vs : List Value) → Holds Z n f this older ms vs → Holds Z n f this older (rests k ms) (drop k vs)
  holds_drop zero ms [] h = h
  holds_drop zero ms (v ∷ vs) h = h
  holds_drop (suc k) ms vs h =
      subst (Holds Z n f this older (rest (rests k ms))) (sym (drop_below k vs)) (holds_below Z n f this older (rests k ms) (drop k vs) (holds_drop k ms vs h))

  -- so many operands of which nothing is known
  pub holds_anys : (k : ℕ) (ms : List Mark) (vs : List Value) → Holds Z n f this older ms (drop k vs) → Holds Z n f this older (anys k ms) vs
  holds_anys zero ms [] h = h
  holds_anys zero ms (v ∷ vs) h = h
  holds_anys (suc k) ms vs h = holds_anys k (Any ∷ ms) vs (tt, subst (Holds Z n f this older ms) (drop_below k vs) h)

-- an object that is written to an operand is there; where there is none nothing is found
pub set_loose : (k : ℕ) (v : Value) (vs : List Value) → IsLoose v → IsLoose (top (drop k (slice_set vs k v)))
set_loose zero v [] h = tt
set_loose (suc k) v [] h = tt
set_loose zero v (w ∷ vs) h = h
set_loose (suc k) v (w ∷ vs) h = set_loose k v vs h

pub rests_anys : (n : ℕ) (ms : List Mark) → rests n (anys n ms) ≡ ms
rests_anys zero ms = refl
rests_anys (suc n) ms = ap rest (rests_anys n (Any ∷ ms))

-- what is written to an operand leaves those below
pub drop_set : (n : ℕ) (v : Value) (vs : List Value) → drop (suc n) (slice_set vs n v) ≡ drop (suc n) vs
drop_set n v [] = refl
drop_set zero v (w ∷ vs) = refl
drop_set (suc n) v (w ∷ vs) = drop_set n v vs

pub drop_one : (n : ℕ) (vs : List Value) → below (drop n vs) ≡ drop (suc n) vs
drop_one n vs = sym (drop_below n vs)

-- places

address_last : (p : List Link) → address p ≤ LAST_ADDRESS
address_last [] = omega arith
address_last (l ∷ p) = min-le_right (address p + link_cells l) LAST_ADDRESS

pub address_more : (l : Link) (p : List Link) → address p ≤ address (l ∷ p)
address_more l p = le-min (omega arith) (address_last p)

-- what is said of what is still to be bound may be said otherwise
module _ (P Q : List Link → Type 0) (f : (p : List Link) → P p → Q p) where
  bound_more : (c : CleanUp) → OfBound P c → OfBound Q c
  bound_more (src.Destroys (src.OfObject (src.EndProcessor (src.Load (src.Variable k))))) h = λ near. f (Slot k ∷ []) (h near)
  bound_more (src.Destroys (src.OfObject (src.EndOn r written (src.Load (src.Variable k))))) h = λ near. f (Slot k ∷ []) (h near)
  bound_more c h = tt

  opens_more : (ss : Stmts) → OpensBound P ss → OpensBound Q ss
  opens_more (src.Scoped c rest) h = bound_more c h
  opens_more ss h = tt

  rest_more : (todo : List Todo) → NextRest P todo → NextRest Q todo
  rest_more (piece.Rest ss ∷ todo) h = opens_more ss h
  rest_more todo h = tt

  drop_more : (todo : List Todo) → NextDrop P todo → NextDrop Q todo
  drop_more (piece.DropNow ∷ (piece.Within line ∷ (piece.Rest ss ∷ todo))) h = opens_more ss h
  drop_more todo h = tt

  call_more : (todo : List Todo) → NextCall P todo → NextCall Q todo
  call_more (piece.CallOnNow r ∷ todo) h = drop_more todo h
  call_more (piece.CallUnwrittenNow r ∷ todo) h = drop_more todo h
  call_more todo h = tt

  pub pends_more : (todo : List Todo) → Pends P todo → Pends Q todo
  pends_more [] h = tt
  pends_more (piece.Eval e ∷ todo) h = (drop_more todo h.0, pends_more todo h.1)
  pends_more (piece.Do x ∷ todo) h = (rest_more todo h.0, pends_more todo h.1)
  pends_more (piece.BindNow ∷ todo) h = (drop_more todo h.0, pends_more todo h.1)
  pends_more (piece.MakeNow c r ∷ todo) h = (call_more todo h.0, pends_more todo h.1)
  pends_more (piece.BindMadeNow c r ∷ todo) h = (call_more todo h.0, pends_more todo h.1)
  pends_more (p ∷ todo) h = pends_more todo h

module _ (P Q : List Link → Type 0) (f : (p : List Link) → P p → Q p) where
  elements_more : (n : ℕ) (e : Expr) → OfElements n P e → OfElements n Q e
  elements_more n (src.Element m src.Binding (src.Variable k) i) h = λ j l. f (At src.Binding j ∷ (Slot k ∷ [])) (h j l)
  elements_more n e h = tt

  variable_more : (e : Expr) → OfVariable P e → OfVariable Q e
  variable_more (src.Variable k) h = f (Slot k ∷ []) h
  variable_more e h = tt

  each_more : (c : CleanUp) → OfEach P c → OfEach Q c
  each_more (src.Destroys (src.OfObject (src.EndOn r written (src.Load e)))) h = variable_more e h
  each_more (src.Destroys (src.OfObject (src.EndCluster (src.Load e)))) h = variable_more e h
  each_more (src.Destroys (src.OfObject (src.EndProcessor (src.Load e)))) h = variable_more e h
  each_more (src.DestroysAll n (src.OfObject (src.EndOn r written (src.Load e)))) h = elements_more n e h
  each_more (src.DestroysAll n (src.OfObject (src.EndCluster (src.Load e)))) h = elements_more n e h
  each_more (src.DestroysAll n (src.OfObject (src.EndProcessor (src.Load e)))) h = elements_more n e h
  each_more c h = tt

  pub each_next_more : (todo : List Todo) → EachNext P todo → EachNext Q todo
  each_next_more (piece.DropNow ∷ (piece.MoreNow ∷ (piece.FillNow n b d ∷ (piece.Within line ∷ (piece.Rest (src.Scoped c rest) ∷ todo))))) h = each_more c h
  each_next_more todo h = tt

-- what is said of constructors that are still to be called may be said otherwise
module _ (P Q : ℕ → ℕ → Type 0) (f : (d k : ℕ) → P d k → Q d k) where
  pub awaited_more : (todo : List Todo) → Awaited P todo → Awaited Q todo
  awaited_more (piece.DropNow ∷ (piece.Within line ∷ (piece.Rest ss ∷ todo))) h = plains_more P Q f ss h
  awaited_more todo h = tt

  rest_awaited : (todo : List Todo) → AwaitedRest P todo → AwaitedRest Q todo
  rest_awaited (piece.Rest ss ∷ todo) h = plains_more P Q f ss h
  rest_awaited todo h = tt

  pub calling_more : (todo : List Todo) → Calling P todo → Calling Q todo
  calling_more [] h = tt
  calling_more (piece.Eval e ∷ todo) h = (awaited_more todo h.0, calling_more todo h.1)
  calling_more (piece.Do a ∷ todo) h = (rest_awaited todo h.0, calling_more todo h.1)
  calling_more (piece.CallOnNow r ∷ todo) h = (awaited_more todo h.0, calling_more todo h.1)
  calling_more (piece.CallUnwrittenNow r ∷ todo) h = (awaited_more todo h.0, calling_more todo h.1)
  calling_more (p ∷ todo) h = calling_more todo h

pub none_calling : (P : ℕ → ℕ → Type 0) (todo : List Todo) → NoneCalled todo → Calling P todo
none_calling P todo h = calling_more (λ d k. ⊥) P (λ d k z. absurd z) todo h

older_more : (Z : ℕ → ℕ → Type 0) (a b : ℕ) → a ≤ b → (d : ℕ) (cs : List Active) → PendsBefore Z a d cs → PendsBefore Z b d cs
older_more Z a b le d [] h = tt
older_more Z a b le d (c ∷ cs) h = (here, older_more Z a b le d cs h.1)
  where
    here : c.frame ≡ d → Pends (IsBefore b) c.control × EachNext (IsNearer b) c.control × Calling (EndsBefore Z b) c.control
    here e =
        let k = h.0 e in
        (pends_more (IsBefore a) (IsBefore b) (λ p z. omega (arith, z, le)) c.control k.0, each_next_more (IsNearer a) (IsNearer b) (λ p z near. let y = z near in omega (arith, y, le)) c.control k.1, calling_more (EndsBefore Z a) (EndsBefore Z b) (λ m j z. let y = z.2 in (z.0, z.1, omega (arith, y, le))) c.control k.2)

-- no constructor is to be called where nothing is
pub calm_none : (todo : List Todo) → Calm todo → NoneCalled todo
calm_none [] h = tt
calm_none (piece.CallOnNow r ∷ todo) h = absurd h
calm_none (piece.CallUnwrittenNow r ∷ todo) h = absurd h
calm_none (piece.Eval e ∷ todo) h = absurd h
calm_none (piece.Do x ∷ todo) h = absurd h
calm_none (piece.BindNow ∷ todo) h = absurd h
calm_none (piece.MakeNow c r ∷ todo) h = absurd h
calm_none (piece.BindMadeNow c r ∷ todo) h = absurd h
calm_none (p ∷ todo) h = calm_none todo h

-- nothing is to be bound where nothing is to be evaluated or done
pub calm_pends : (P : List Link → Type 0) (todo : List Todo) → Calm todo → Pends P todo
calm_pends P [] h = tt
calm_pends P (piece.Eval e ∷ todo) h = absurd h
calm_pends P (piece.Do x ∷ todo) h = absurd h
calm_pends P (piece.BindNow ∷ todo) h = absurd h
calm_pends P (piece.MakeNow c r ∷ todo) h = absurd h
calm_pends P (piece.BindMadeNow c r ∷ todo) h = absurd h
calm_pends P (piece.CallOnNow r ∷ todo) h = absurd h
calm_pends P (piece.CallUnwrittenNow r ∷ todo) h = absurd h
calm_pends P (p ∷ todo) h = calm_pends P todo h

pub calm_free : (todo : List Todo) → Calm todo → Free todo
calm_free todo h = calm_pends (λ p. ⊥) todo h

pub free_pends : (P : List Link → Type 0) (todo : List Todo) → Free todo → Pends P todo
free_pends P todo h = pends_more (λ p. ⊥) P (λ p z. absurd z) todo h

module _ (Z : ℕ → ℕ → Type 0) (n : Exec) where
  -- a step further than what lies aside lies so too
  owner_further : (older : List Active) (l : Link) (o : Owner) (p : List Link) → OwnerAside Z n older o (address p) → OwnerAside Z n older o (address (l ∷ p))
  owner_further older l (Frame m d) p h = (h.0, older_more Z (address p) (address (l ∷ p)) (address_more l p) d older h.1)
  owner_further older l (Fields o) p h = tt

  pub further_aside : (older : List Active) (l : Link) (v : Value) → LiesAside Z n older v → LiesAside Z n older (further l v)
  further_aside older l (Number z) h = tt
  further_aside older l (Place o p) h = owner_further older l o p h
  further_aside older l (Running e) h = tt
  further_aside older l (Object o) h = tt
  further_aside older l Nothing h = tt

  -- and one further than what constructors may have at hand is what they may be called for
  awaits_more : (a b : ℕ) → a ≤ b → (d : ℕ) (cs : List Active) → AwaitsBefore Z a d cs → AwaitsBefore Z b d cs
  awaits_more a b le d [] h = tt
  awaits_more a b le d (c ∷ cs) h =
      ((λ e. awaited_more (EndsBefore Z a) (EndsBefore Z b) (λ m j z. let q = z.2 in (z.0, z.1, omega (arith, q, le))) c.control (h.0 e)), awaits_more a b le d cs h.1)

  pub further_sits : (f : ℕ) (this : Value) (older : List Active) (k : src.Shape) (i : ℕ) (v : Value) → SitsAt Z n f this older v → SitsAt Z n f this older (further (piece.At k i) v)
  further_sits f this older k i v (inl h) =
      inl (piece.At k i ∷ h.0, ap (further (piece.At k i)) h.1, h.2, awaits_more (address h.0) (address (piece.At k i ∷ h.0)) (address_more (piece.At k i) h.0) f older h.3)
  further_sits f this older k i v (inr h) = inr (further_in h.0 (piece.At k i), h.1)

  -- a field of the object at hand of a constructor is too
  pub field_sits : (f : ℕ) (this : Value) (older : List Active) (l : Link) → Sits Z n older this → SitsAt Z n f this older (further l this)
  field_sits f this older l h = inr (first l, h)

  -- so does what lies aside of what waits with nothing to bind
  owner_waits : (older : List Active) (c : Active) (o : Owner) (cell : ℕ) → Free c.control → EachNext (λ p. ⊥) c.control → NoneCalled c.control → OwnerAside Z n older o cell → OwnerAside Z n (c ∷ older) o cell
  owner_waits older c (Frame m d) cell q r u h =
      (h.0, ((λ e. (free_pends (IsBefore cell) c.control q, each_next_more (λ p. ⊥) (IsNearer cell) (λ p z. absurd z) c.control r, none_calling (EndsBefore Z cell) c.control u)), h.1))
  owner_waits older c (Fields o) cell q r u h = tt

  pub waits_aside : (older : List Active) (c : Active) (v : Value) → Free c.control → EachNext (λ p. ⊥) c.control → NoneCalled c.control → LiesAside Z n older v → LiesAside Z n (c ∷ older) v
  waits_aside older c (Number z) q r u h = tt
  waits_aside older c (Place o p) q r u h = owner_waits older c o (address p) q r u h
  waits_aside older c (Running e) q r u h = tt
  waits_aside older c (Object o) q r u h = tt
  waits_aside older c Nothing q r u h = tt

-- what may be built where less may be

module _ (makes : ℕ → Bool) (Near Other : ℕ → Type 0) (made other : Bool) (f : (k : ℕ) → Near k → Other k) (g : made ≡ true → other ≡ true) where
  pub at_more : (e : Expr) → SitedAt makes Near made e → SitedAt makes Other other e
  at_more (src.Variable k) h = f k h
  at_more (src.OfObject (src.OwnField s i)) h = g h
  at_more (src.Element n s e i) h = (at_more e h.0, h.1)
  at_more e h = absurd h

  pub builds_more : (e : Expr) → BuildsAt makes Near made e → BuildsAt makes Other other e
  builds_more (src.OfObject (src.CallOn r p args)) h = (at_more p h.0, h.1)
  builds_more (src.OfObject (src.CallUnwritten r p)) h = at_more p h
  builds_more (src.OfObject (src.Bind p e)) h = (at_more p h.0, h.1)
  builds_more e h = absurd h

module _ (makes : ℕ → Bool) (made other : Bool) (g : made ≡ true → other ≡ true) where
  pub singly_more : (e : Expr) → Singly makes made e → Singly makes other e
  singly_more (src.OfObject (src.Bind p e)) h = (at_more makes Everywhere Everywhere made other (λ k z. z) g p h.0, h.1)
  singly_more (src.OfObject (src.MakeOn c r written p args)) h = (at_more makes Everywhere Everywhere made other (λ k z. z) g p h.0, h.1)
  singly_more (src.OfObject (src.EndOn r written e)) h = h
  singly_more (src.OfObject (src.EndCluster e)) h = h
  singly_more (src.OfObject (src.EndProcessor e)) h = h
  singly_more e h = absurd h

module _ (makes : ℕ → Bool) (Near Other : ℕ → Type 0) (made other : Bool) (f : (k : ℕ) → Near k → Other k) (g : made ≡ true → other ≡ true) where
  pub sited_more : (e : Expr) → SitedExpr makes Near made e → SitedExpr makes Other other e
  sited_more e (inl (inl h)) = inl (inl h)
  sited_more e (inl (inr h)) = inl (inr (singly_more makes made other g e h))
  sited_more e (inr h) = inr (builds_more makes Near Other made other f g e h)

-- what is new is bound at a place whose variable is so

abbrev pub Rooted : (ℕ → Type 0) → Expr → Type 0
Rooted Near (src.Variable k) = Near k
Rooted Near (src.Element n s e i) = Rooted Near e
Rooted Near e = Unit {0}

abbrev pub NearNew : (ℕ → Type 0) → Expr → Type 0
NearNew Near (src.OfObject (src.Bind p e)) = Rooted Near p
NearNew Near (src.OfObject (src.MakeOn c r written p args)) = Rooted Near p
NearNew Near e = Unit {0}

pub near_sited : (makes : ℕ → Bool) (Near : ℕ → Type 0) (made : Bool) (e : Expr) → SitedAt makes Everywhere made e → Rooted Near e → SitedAt makes Near made e
near_sited makes Near made (src.Variable k) h n = n
near_sited makes Near made (src.OfObject (src.OwnField s i)) h n = h
near_sited makes Near made (src.Element m s e i) h n = (near_sited makes Near made e h.0 n, h.1)
near_sited makes Near made e h n = absurd h

module _ (makes : ℕ → Bool) (Near Other : ℕ → Type 0) (Alone Lonely : Type 0) (made : Bool) (f : (k : ℕ) → Near k → Other k) (g : Alone → Lonely) where
  fills_more : (b : Expr) → PlainSingle makes made b ⊎ (BuildsAt makes Near made b × Alone) → PlainSingle makes made b ⊎ (BuildsAt makes Other made b × Lonely)
  fills_more b (inl h) = inl h
  fills_more b (inr h) = inr (builds_more makes Near Other made made f (λ q. q) b h.0, g h.1)

  pub stmt_more : (a : Stmt) → SitedStmt makes Near Alone made a → SitedStmt makes Other Lonely made a
  stmt_more (src.Evaluate line e) h = sited_more makes Near Other made made f (λ q. q) e h
  stmt_more (src.Fill line n b d) h = (fills_more b h.0, h.1, h.2)
  stmt_more a h = h

-- to-do lists that are left

module _ (makes : ℕ → Bool) (source : Source) (Near : ℕ → Type 0) (made : Bool) where
  pub left : (ms : List Mark) (todo : List Todo) → Ok makes source Near made ms todo → Left makes source Near made todo
  left ms [] h = tt
  left ms (piece.Eval e ∷ todo) (n, inl h) = left (Any ∷ ms) todo h.1
  left ms (piece.Eval e ∷ todo) (n, inr (inl h)) = left (Any ∷ ms) todo h.2
  left ms (piece.Eval e ∷ todo) (n, inr (inr (inl h))) = left (Any ∷ ms) todo h.3
  left ms (piece.Eval e ∷ todo) (n, inr (inr (inr (inl h)))) = left (Aside ∷ ms) todo h.1
  left ms (piece.Eval e ∷ todo) (n, inr (inr (inr (inr h)))) = left (Loose ∷ ms) todo h.1
  left ms (piece.ElementNow n s ∷ todo) (inl h) = left (Any ∷ rest (rest ms)) todo h
  left ms (piece.ElementNow n s ∷ todo) (inr h) = left (Aside ∷ rest (rest ms)) todo h.1
  left ms (piece.BindNow ∷ todo) h = left (Any ∷ rest (rest ms)) todo h.1
  left ms (piece.MakeNow c r ∷ todo) h = left (anys (params source r) (Loose ∷ rests (suc (params source r)) ms)) todo h.1
  left ms (piece.BindMadeNow c r ∷ todo) h = left (anys (params source r) (Loose ∷ rests (suc (params source r)) (rest ms))) todo h.1
  left ms (piece.Do a ∷ todo) h = left [] todo h.2
  left ms (piece.Branch a b ∷ todo) h = left [] todo h.2
  left ms (piece.ChooseNow cs ∷ todo) h = left [] todo h.2
  left ms (piece.Exit w ∷ todo) h = h.1
  left ms (piece.Unwind ∷ todo) h = h.1
  left ms (piece.InLoop o t e b ∷ todo) h = h
  left ms (piece.InWhole ∷ todo) h = h.1
  left ms (piece.Clean c ∷ todo) h = h
  left ms (piece.ClusterNow ∷ todo) h = left (h.0 ∷ ms) todo h.2
  left ms (piece.ProcessorNow ∷ todo) h = left (h.0 ∷ rest ms) todo h.2
  left ms (piece.FillNow n b d ∷ todo) h = h
  left ms (piece.Sweep e ∷ todo) h = h
  left ms (piece.Part c ∷ todo) h = h
  left ms (piece.Guard hs ∷ todo) h = h
  left ms (piece.Finish ∷ todo) h = h.1
  left ms (piece.FinishCoroutine ∷ todo) h = h.1
  left ms (p ∷ todo) h = left (after source p ms) todo h.1

  -- what stands behind the first piece
  pub left_tail : (p : Todo) (todo : List Todo) → Left makes source Near made (p ∷ todo) → Left makes source Near made todo
  left_tail (piece.InLoop o t e b) todo h = left [] todo h.1
  left_tail piece.InWhole todo h = left [] todo h
  left_tail (piece.Clean c) todo h = left [] todo h.1
  left_tail (piece.FillNow n b d) todo h = left [] todo h.1
  left_tail (piece.Sweep e) todo h = left [] todo h.1
  left_tail (piece.Part c) todo h = left [] todo h.1
  left_tail (piece.Guard hs) todo h = left [] todo h.1
  left_tail piece.Finish todo h = left [] todo h
  left_tail piece.FinishCoroutine todo h = left [] todo h
  left_tail p todo h = h

  -- one that waits goes on so
  pub now : (ms : List Mark) (todo : List Todo) → Ok makes source Near made ms todo → OkNow makes source Near made ms todo
  now ms (piece.Unwind ∷ todo) h = h.1
  now ms todo h = h

-- of activations that wait, each before older ones
module _ (Z : ℕ → ℕ → Type 0) (makes : ℕ → Bool) (source : Source) where
  pub record ActiveLeft (older : List Active) (a : Active) : Type 0 where
    pub made : Bool
    pub rest : Left makes source (IsNear Z a.frame older) made a.control

  abbrev pub AllLeft : List Active → Type 0
  AllLeft [] = Unit {0}
  AllLeft (a ∷ cs) = ActiveLeft cs a × AllLeft cs

  pub waits_left : (n : Exec) (cs : List Active) → AllWait (Runs Z makes source) (Waits Z makes source) n cs → AllLeft cs
  waits_left n [] h = tt
  waits_left n (a ∷ cs) h = (record { made = h.0.made; rest = left makes source (IsNear Z a.frame cs) h.0.made (Any ∷ h.0.marks) a.control h.0.ok }, waits_left n cs h.1)
