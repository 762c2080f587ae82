-- Expressions as programs write them: they call, read and write, but bind nothing, make nothing and end nothing. What does so stands by
-- itself, and only for a place that is being built.
use Rattle.std.specs.Prelude.{ℕ, ◌≤◌, List, [], ◌∷◌, Option, Some, None}
use Rattle.uc_tree.specs.Source.{Expr, Exprs, ObjectExpr, Literal, Variable, Element, Get, Load, Negated, Not, AsCharacter, AsTruth, Operate, And, Or, Set, Assign, First, Update, StepBehind, Fail, Call, OfObject, NoExprs, MoreExprs, This, OwnField, GetOwn, FieldOf, Counted, CallOn, CallLive, CallUnwritten, EnterOn, EndOn, Bind, MakeOn, NewCluster, NewProcessor, EndCluster, EndProcessor, ConditionAt, Wait, Signal, SignalBlock, IsEmpty, FrontOf, Item, Show, ShowText, Target}

abbrev mutual
  pub Ordinary : Expr → Type 0
  Ordinary (Literal n) = Unit {0}
  Ordinary (Variable k) = Unit {0}
  Ordinary (Element n s e i) = Ordinary e × Ordinary i
  Ordinary (Get k) = Unit {0}
  Ordinary (Load e) = Ordinary e
  Ordinary (Negated e) = Ordinary e
  Ordinary (Not e) = Ordinary e
  Ordinary (AsCharacter e) = Ordinary e
  Ordinary (AsTruth e) = Ordinary e
  Ordinary (Operate op e f) = Ordinary e × Ordinary f
  Ordinary (And e f) = Ordinary e × Ordinary f
  Ordinary (Or e f) = Ordinary e × Ordinary f
  Ordinary (Set k e) = Ordinary e
  Ordinary (Assign p e) = Ordinary p × Ordinary e
  Ordinary (First e f) = Ordinary e × Ordinary f
  Ordinary (Update op s p e) = Ordinary p × Ordinary e
  Ordinary (StepBehind op s p) = Ordinary p
  Ordinary Fail = Unit {0}
  Ordinary (Call r args) = OrdinaryAll args
  Ordinary (OfObject o) = OrdinaryObject o

  pub OrdinaryAll : Exprs → Type 0
  OrdinaryAll NoExprs = Unit {0}
  OrdinaryAll (MoreExprs e es) = Ordinary e × OrdinaryAll es

  pub OrdinaryObject : ObjectExpr → Type 0
  OrdinaryObject This = Unit {0}
  OrdinaryObject (OwnField s i) = Unit {0}
  OrdinaryObject (GetOwn s i) = Unit {0}
  OrdinaryObject (FieldOf s i e) = Ordinary e
  OrdinaryObject Counted = Unit {0}
  OrdinaryObject (CallOn r e args) = Ordinary e × OrdinaryAll args
  OrdinaryObject (CallLive r e args) = Ordinary e × OrdinaryAll args
  OrdinaryObject (CallUnwritten r e) = Ordinary e
  OrdinaryObject (EnterOn m r e args) = Ordinary e × OrdinaryAll args
  OrdinaryObject (EndOn r written e) = ⊥
  OrdinaryObject (Bind p e) = ⊥
  OrdinaryObject (MakeOn c r written p args) = ⊥
  OrdinaryObject NewCluster = ⊥
  OrdinaryObject (NewProcessor e) = ⊥
  OrdinaryObject (EndCluster e) = ⊥
  OrdinaryObject (EndProcessor e) = ⊥
  OrdinaryObject (ConditionAt k n e) = Ordinary e
  OrdinaryObject (Wait e f) = Ordinary e × Ordinary f
  OrdinaryObject (Signal e) = Ordinary e
  OrdinaryObject (SignalBlock e) = Ordinary e
  OrdinaryObject (IsEmpty e) = Ordinary e
  OrdinaryObject (FrontOf e) = Ordinary e

abbrev pub OrdinaryMaybe : Option Expr → Type 0
OrdinaryMaybe None = Unit {0}
OrdinaryMaybe (Some e) = Ordinary e

abbrev pub OrdinaryItem : Item → Type 0
OrdinaryItem (Show form e) = Ordinary e
OrdinaryItem (ShowText k) = Unit {0}

abbrev pub OrdinaryItems : List Item → Type 0
OrdinaryItems [] = Unit {0}
OrdinaryItems (i ∷ is) = OrdinaryItem i × OrdinaryItems is

abbrev pub OrdinaryTargets : List Target → Type 0
OrdinaryTargets [] = Unit {0}
OrdinaryTargets (x ∷ xs) = Ordinary x.place × OrdinaryTargets xs

-- a place that may be being built where all objects in scope lie before the cell `low`: a variable from there on, a field of the object
-- at hand, an element of one of these
abbrev pub IsNew : ℕ → Expr → Type 0
IsNew low (Variable k) = low ≤ k
IsNew low (Element n s e i) = IsNew low e × Ordinary i
IsNew low (OfObject (OwnField s i)) = Unit {0}
IsNew low e = ⊥

-- a field of the object at hand, an element of one
abbrev pub IsOwn : Expr → Type 0
IsOwn (OfObject (OwnField s i)) = Unit {0}
IsOwn (Element n s e i) = IsOwn e
IsOwn e = ⊥

-- what a place is bound to: a new cluster, a new processor, and of fields also what is there
abbrev pub IsGiven : Expr → Expr → Type 0
IsGiven p (OfObject NewCluster) = Unit {0}
IsGiven p (OfObject (NewProcessor e)) = Ordinary e
IsGiven p e = IsOwn p × Ordinary e

-- what is evaluated there by itself
abbrev pub Evaluated : ℕ → Expr → Type 0
Evaluated low (OfObject (Bind p e)) = IsNew low p × IsGiven p e
Evaluated low (OfObject (MakeOn c r written p args)) = IsNew low p × OrdinaryAll args
Evaluated low (OfObject NewCluster) = Unit {0}
Evaluated low (OfObject (NewProcessor e)) = Ordinary e
Evaluated low (OfObject (EndOn r written e)) = Ordinary e
Evaluated low (OfObject (EndCluster e)) = Ordinary e
Evaluated low (OfObject (EndProcessor e)) = Ordinary e
Evaluated low e = Ordinary e
