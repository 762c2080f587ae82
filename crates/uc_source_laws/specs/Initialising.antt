-- What the initialisers of a constructor name of the object that is built: fields before the one that is initialised, or one field alone,
-- which a reference may be bound to.
use Rattle.std.specs.Prelude.{◌≡◌, ℕ, suc, ◌≤◌, ◌<◌, ◌⊎◌, [], true, Some, slice_get}
use Rattle.uc_tree.specs.Programs.{Program}
use Rattle.uc_tree.specs.Source.{Expr, Exprs, ObjectExpr, Element, Load, AsCharacter, AsTruth, Assign, OfObject, NoExprs, MoreExprs, This, OwnField, GetOwn, Counted, CallOn, CallUnwritten, Bind, MakeOn, NewProcessor, CleanUp, Stmts, Whole, Evaluate, Fill, OfTasks, TaskStmt, Nil, Then, Scoped, Built, Routine}
use Rattle.uc_resolve.specs.Resolve.{source_of}
use Rattle.uc_rules.specs.Breaks.{breaks_of}
use Rattle.uc_sound.specs.SoundFormed.{IsFormed}
use Rattle.uc_sound.specs.Routines.{builds}
use Rattle.uc_inner_laws.specs.Walks as walk

-- of the object at hand fields before this one are named, and the object as a whole is not
abbrev pub AtOwn : ℕ → ObjectExpr → Type 0
AtOwn n This = ⊥
AtOwn n (OwnField s i) = i < n
AtOwn n (GetOwn s i) = i < n
AtOwn n o = Unit {0}

abbrev pub same : CleanUp → ℕ → ℕ
same c n = n

abbrev pub AnyCall : ℕ → Exprs → Type 0
AnyCall r args = Unit {0}

abbrev pub AnyTask : ℕ → TaskStmt → Type 0
AnyTask n a = Unit {0}

abbrev pub AnyClean : ℕ → CleanUp → Type 0
AnyClean n c = Unit {0}

abbrev pub Earlier : ℕ → Expr → Type 0
Earlier n e = walk.InExpr ℕ same AnyCall AtOwn AnyTask AnyClean n e

abbrev pub AllEarlier : ℕ → Exprs → Type 0
AllEarlier n es = walk.InExprs ℕ same AnyCall AtOwn AnyTask AnyClean n es

-- a field of the object at hand alone, or what it holds: a reference may be bound to a later one
abbrev pub IsAlone : Expr → Type 0
IsAlone (Load e) = IsAlone e
IsAlone (AsCharacter e) = IsAlone e
IsAlone (AsTruth e) = IsAlone e
IsAlone (OfObject (OwnField s i)) = Unit {0}
IsAlone (OfObject (GetOwn s i)) = Unit {0}
IsAlone (OfObject (NewProcessor e)) = IsAlone e
IsAlone e = ⊥

abbrev pub Given : ℕ → Expr → Type 0
Given n e = Earlier n e ⊎ IsAlone e

abbrev pub AllGiven : ℕ → Exprs → Type 0
AllGiven n NoExprs = Unit {0}
AllGiven n (MoreExprs e es) = Given n e × AllGiven n es

-- a field from this number on is initialised, and more fields behind it
abbrev pub Starts : ℕ → Expr → (ℕ → Type 0) → Type 0
Starts k (Assign (OfObject (OwnField s n)) e) rest = (k ≤ n) × Given n e × rest (suc n)
Starts k (OfObject (Bind (OfObject (OwnField s n)) e)) rest = (k ≤ n) × Given n e × rest (suc n)
Starts k (OfObject (CallOn r (OfObject (OwnField s n)) args)) rest = (k ≤ n) × AllGiven n args × rest (suc n)
Starts k (OfObject (CallUnwritten r (OfObject (OwnField s n)))) rest = (k ≤ n) × rest (suc n)
Starts k (OfObject (MakeOn c r written (OfObject (OwnField s n)) args)) rest = (k ≤ n) × AllGiven n args × rest (suc n)
Starts k e rest = ⊥

-- so are the elements of one that is an array, without arguments
abbrev pub Fills : ℕ → Expr → (ℕ → Type 0) → Type 0
Fills k (OfObject (Bind (Element m t (OfObject (OwnField s n)) (OfObject Counted)) e)) rest = (k ≤ n) × Earlier n e × rest (suc n)
Fills k (OfObject (CallOn r (Element m t (OfObject (OwnField s n)) (OfObject Counted)) args)) rest = (k ≤ n) × (args ≡ NoExprs) × rest (suc n)
Fills k (OfObject (CallUnwritten r (Element m t (OfObject (OwnField s n)) (OfObject Counted)))) rest = (k ≤ n) × rest (suc n)
Fills k (OfObject (MakeOn c r written (Element m t (OfObject (OwnField s n)) (OfObject Counted)) args)) rest = (k ≤ n) × (args ≡ NoExprs) × rest (suc n)
Fills k e rest = ⊥

-- the statements of a constructor up to its body
abbrev pub Initialises : ℕ → Stmts → Type 0
Initialises k Nil = Unit {0}
Initialises k (Then (Evaluate line e) rest) = Starts k e (λ n. Initialises n rest)
Initialises k (Then (Fill line m b d) rest) = Fills k b (λ n. Initialises n rest)
Initialises k (Then (OfTasks a) rest) = Initialises k rest
Initialises k (Then (Whole line body) rest) = Unit {0}
Initialises k (Then a rest) = ⊥
Initialises k (Scoped c rest) = Initialises k rest
Initialises k (Built c rest) = Initialises k rest

-- in every constructor of a class
abbrev pub LawInitialises : Type 0
LawInitialises =
    (p : Program) → IsFormed p → breaks_of p ≡ [] → (n : ℕ) (r : Routine) →
    slice_get (source_of p).routines n ≡ Some r → builds p n ≡ true → Initialises 0 r.body
