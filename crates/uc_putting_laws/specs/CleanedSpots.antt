-- For which spot a clean-up is, and the order in which fields of the object at hand get their marks: each is of a higher number than those outwards
-- of it.
use Rattle.std.specs.Prelude.{◌≡◌, ℕ, suc, ◌≤◌, ◌<◌, ◌⊎◌, Bool, true, false, List, [], ◌∷◌, Option, Some, None, if◌then◌else◌}
use Rattle.uc_tree.specs.Source.{Shape, Expr, Variable, Element, Load, OfObject, OwnField, CallOn, CallUnwritten, EndOn, EndCluster, EndProcessor, CleanUp, Destroys, DestroysAll, Stmts, Nil, Then, Scoped, Built}
use Rattle.uc_machine.specs.Pieces.{FieldAt, Value, further, Todo, Sort, sort, IsClean, IsPart}
use Rattle.uc_typing.specs.Typing.{Ty, Cell, Obj, Row, Table, CleansAt}
use Rattle.uc_life_laws.specs.Things.{Within}
use Rattle.uc_life_laws.specs.Ending.{Spot, OfVariable, OfField, naming}

-- where something is built or destroyed: a mutex object at a spot, each of the elements of an array of so many there, or what is no mutex object and
-- lies at a spot or further: an object of this class, where one is built or destroyed, one of so many
pub data Site : Type 0 where
  One : Spot → Site
  Each : ℕ → Spot → Site
  Under : Option ℕ → ℕ → Spot → Site

abbrev pub site_spot : Site → Spot
site_spot (One p) = p
site_spot (Each n p) = p
site_spot (Under o n p) = p

abbrev pub NoSite : Site → Type 0
NoSite x = ⊥

abbrev pub AnySite : Site → Type 0
AnySite x = Unit {0}

abbrev pub AnyPlace : ℕ → Spot → Type 0
AnyPlace n p = Unit {0}

-- one of so many is there
abbrev pub HasSome : Site → Type 0
HasSome (One p) = Unit {0}
HasSome (Each n p) = 0 < n
HasSome (Under o n p) = 0 < n

-- the spot of a place, and of what an expression destroys
abbrev pub place_spot : Expr → Option Spot
place_spot (Variable k) = Some (OfVariable k)
place_spot (OfObject (OwnField h i)) = Some (OfField h i)
place_spot (Element n s e i) = place_spot e
place_spot e = None

abbrev pub spot_in : Expr → Option Spot
spot_in (OfObject (CallOn r e args)) = place_spot e
spot_in (OfObject (CallUnwritten r e)) = place_spot e
spot_in (OfObject (EndOn r written (Load e))) = place_spot e
spot_in (OfObject (EndCluster (Load e))) = place_spot e
spot_in (OfObject (EndProcessor (Load e))) = place_spot e
spot_in e = None

abbrev pub spot_of : CleanUp → Option Spot
spot_of (Destroys e) = spot_in e
spot_of (DestroysAll n e) = spot_in e
spot_of c = None

module _ (t : Table) where
  -- a mutex object may lie in an object of this class
  abbrev pub HoldsObjects : Option ℕ → Type 0
  HoldsObjects None = ⊥
  HoldsObjects (Some d) = (w v : Value) × (e : ℕ) × Within t w (Obj d) v (Cell (Obj e))

  -- one may lie in what is at this site
  abbrev pub MayHold : Site → Type 0
  MayHold (One p) = Unit {0}
  MayHold (Each n p) = Unit {0}
  MayHold (Under o n p) = HoldsObjects o

  -- what a clean-up takes out of scope is at this site: a mutex object, an array of so many of them, an object of this class, an array of so many of those,
  -- or what is at that spot
  abbrev pub IsOver : CleanUp → Site → Type 0
  IsOver c (One p) = (b : ℕ) × CleansAt t (Cell (Obj b)) (naming p) c
  IsOver c (Each n p) = (b : ℕ) × CleansAt t (Row n (Cell (Obj b))) (naming p) c
  IsOver c (Under None n p) = spot_of c ≡ Some p
  IsOver c (Under (Some d) n p) = CleansAt t (Obj d) (naming p) c ⊎ CleansAt t (Row n (Obj d)) (naming p) c

  -- the scope of what is at a site opens next, or that is a part of the object at hand from then on
  abbrev pub OpensFor : Stmts → Site → Type 0
  OpensFor (Scoped c rest) x = IsOver c x
  OpensFor (Built c rest) x = IsOver c x
  OpensFor ss x = ⊥

  -- what is at this variable holds no mutex object
  abbrev pub IsHollow : ℕ → Site → Type 0
  IsHollow k (Under o n p) = (p ≡ OfVariable k) × (HoldsObjects o → ⊥)
  IsHollow k x = ⊥

  -- where a clean-up is for a field of the object at hand in which a mutex object lies, one may lie in an object of this class
  abbrev pub LiesInClass : Option ℕ → CleanUp → Type 0
  LiesInClass o c = (h : Shape) (i : ℕ) (a : Ty) (this v : Value) (e : ℕ) → CleansAt t a (OfObject (OwnField h i)) c →
      Within t (further (FieldAt h i) this) a v (Cell (Obj e)) → HoldsObjects o

  -- so it is of statements, but for those within others
  abbrev pub AllInClass : Option ℕ → Stmts → Type 0
  AllInClass o Nil = Unit {0}
  AllInClass o (Then a rest) = AllInClass o rest
  AllInClass o (Scoped c rest) = LiesInClass o c × AllInClass o rest
  AllInClass o (Built c rest) = LiesInClass o c × AllInClass o rest

-- which spots code names: fields of the object at hand, which is of this class, or none, and variables from one on
pub record Reach : Type 0 where
  pub builds : Bool
  pub low : ℕ
  pub class : Option ℕ

abbrev pub reach_of : Bool → Option ℕ → Reach
reach_of b o = record { builds = b; low = 0; class = if b then o else None }

-- variables alone, from one on
abbrev pub from_variable : ℕ → Reach
from_variable k = record { builds = false; low = k; class = None }

abbrev pub apart : Reach → Reach
apart r = from_variable r.low

abbrev pub IsOf : Reach → Spot → Type 0
IsOf r (OfVariable k) = r.low ≤ k
IsOf r (OfField h i) = r.builds ≡ true

abbrev pub IsIn : Reach → Site → Type 0
IsIn r x = IsOf r (site_spot x)

-- the order of marks

-- a clean-up is for a field of a number below this one, or for nothing
abbrev pub SpotBelow : ℕ → Option Spot → Type 0
SpotBelow n None = Unit {0}
SpotBelow n (Some (OfVariable k)) = ⊥
SpotBelow n (Some (OfField h i)) = i < n

abbrev pub SortBelow : ℕ → Sort → Type 0
SortBelow n (IsClean c) = SpotBelow n (spot_of c)
SortBelow n (IsPart c) = SpotBelow n (spot_of c)
SortBelow n k = Unit {0}

abbrev pub AllBelow : ℕ → List Todo → Type 0
AllBelow n [] = Unit {0}
AllBelow n (p ∷ todo) = SortBelow n (sort p) × AllBelow n todo

-- what is outwards of a mark for a field is for fields of lower numbers
abbrev pub IsOutermost : Option Spot → List Todo → Type 0
IsOutermost None todo = Unit {0}
IsOutermost (Some (OfVariable k)) todo = Unit {0}
IsOutermost (Some (OfField h i)) todo = AllBelow i todo

-- statements put marks for fields of ascending numbers from this one on, and for no variable, but within other statements
abbrev pub AscendsBy : Option Spot → ℕ → (ℕ → Type 0) → Type 0
AscendsBy None n next = next n
AscendsBy (Some (OfVariable k)) n next = ⊥
AscendsBy (Some (OfField h i)) n next = (n ≤ i) × next (suc i)

abbrev pub Ascends : ℕ → Stmts → Type 0
Ascends n Nil = Unit {0}
Ascends n (Then a rest) = Ascends n rest
Ascends n (Scoped c rest) = AscendsBy (spot_of c) n (λ m. Ascends m rest)
Ascends n (Built c rest) = AscendsBy (spot_of c) n (λ m. Ascends m rest)
