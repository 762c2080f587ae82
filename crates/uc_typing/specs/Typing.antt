-- What the expressions and statements of a resolved tree are, and that they are in order. A type says what an operand is; each form of
-- the tree has one clause, which says of which types its parts are and what it gives.
use Rattle.std.specs.Prelude.{◌≡◌, ℕ, zero, suc, ◌≤◌, ◌<◌, ◌⊎◌, List, [], ◌∷◌, length, Option, Some, None, Bool, true, false}
use Rattle.uc_machine.specs.Pieces.{LAST_ADDRESS}
use Rattle.uc_tree.specs.Source.{Shape, Binding, Expr, Exprs, ObjectExpr, Literal, Variable, Element, Get, Load, Negated, Not, AsCharacter, AsTruth, Operate, And, Or, Set, Assign, First, Update, StepBehind, Fail, Call, OfObject, NoExprs, MoreExprs, This, OwnField, GetOwn, FieldOf, Counted, CallOn, CallLive, CallUnwritten, EnterOn, EndOn, Bind, MakeOn, NewCluster, NewProcessor, EndCluster, EndProcessor, ConditionAt, Wait, Signal, SignalBlock, IsEmpty, FrontOf, Item, Show, ShowText, Target, Declared, CleanUp, Destroys, DestroysAll, Unwinds, Forgets, Leaves, Ends, Frees, Restores, Stmt, Stmts, Skip, Block, Whole, Evaluate, Declare, Print, PrintTogether, Read, If, Loop, Break, Continue, Return, Owes, Fill, OfEvents, OfTasks, Nil, Then, Scoped, Built, Raised, Plainly, BuiltAt, AgainFrom, EventStmt, Throw, Raise, Try, RaiseAt, Enable, Disable, TaskStmt, Resume, Suspend, SetUp, Enliven, TakeDown, Yield, Migrate, Accept, Handlers, NoHandlers, MoreHandlers, Clauses, NoClauses, Otherwise, MoreClauses}

-- what an operand is: a number; the place of a scalar, of a reference, or of what is known by its number; an object of a class, which is
-- its place, of a mutex class its number; one that is not whole, since it is being built or destroyed; the place of an array; a cluster,
-- a processor
pub data Ty : Type 0 where
  Num : Ty
  Cell : Ty → Ty
  Obj : ℕ → Ty
  Raw : ℕ → Ty
  Row : ℕ → Ty → Ty
  Clu : Ty
  Pro : Ty

-- what is whole and in scope, newest first: a variable, by its first cell and its type; a field of the object at hand; or what is no
-- object: a call that has entered one, one that is being built or destroyed, events that are enabled
pub data Name : Type 0 where
  Var : ℕ → Ty → Name
  Own : ℕ → Name
  Kept : Name

-- how a routine comes to run inside the mutex object at hand: it does not; it enters that object, or destroys it; it builds it; it is
-- called at that object by what is inside; it is the main, which nobody calls
pub data Inward : Type 0 where
  Apart : Inward
  Enters : Inward
  Makes : Inward
  Helps : Inward
  Main : Inward

-- a routine: the class of its object, its parameters, each in a cell of its own, what stands at its other variables, by their first
-- cells, whether it is a constructor or a destructor, whose body is left as a whole, and how it comes to run inside its object
pub record Sig : Type 0 where
  pub this : Option ℕ
  pub params : List Ty
  pub locals : List (ℕ × Ty)
  pub whole : Bool
  pub inward : Inward

-- the routines by their numbers, and how many there are; of the classes what stands at each field, their shapes, whether they are mutex classes, whether their
-- objects have executions, whether those are tasks, and their numbers
pub record Table : Type 0 where
  pub routine : ℕ → Sig
  pub count : ℕ
  pub fields : ℕ → ℕ → Ty
  pub shape : ℕ → Shape
  pub mutex : ℕ → Bool
  pub executes : ℕ → Bool
  pub tasks : ℕ → Bool
  pub number : ℕ → ℕ
  -- whether bindings other than parameters are read: references in fields, and what is known by its number
  pub refers : Bool

-- what stands there while it is being built or destroyed
abbrev pub raw : Ty → Ty
raw Num = Num
raw (Cell a) = Cell (raw a)
raw (Obj c) = Raw c
raw (Raw c) = Raw c
raw (Row n a) = Row n (raw a)
raw Clu = Clu
raw Pro = Pro

-- whether it is a place
abbrev pub IsPlaced : Table → Ty → Type 0
IsPlaced t Num = ⊥
IsPlaced t (Cell a) = Unit {0}
IsPlaced t (Obj c) = t.mutex c ≡ false
IsPlaced t (Raw c) = t.mutex c ≡ false
IsPlaced t (Row n a) = Unit {0}
IsPlaced t Clu = ⊥
IsPlaced t Pro = ⊥

-- what a parameter's cell holds
abbrev pub IsParam : List Ty → ℕ → Ty → Type 0
IsParam [] k a = ⊥
IsParam (p ∷ more) zero a = a ≡ p
IsParam (p ∷ more) (suc k) a = IsParam more k a

abbrev pub Among : List (ℕ × Ty) → ℕ → Ty → Type 0
Among [] k a = ⊥
Among (l ∷ ls) k a = ((l.0 ≡ k) × (l.1 ≡ a)) ⊎ Among ls k a

-- of objects without cells several may have one cell
abbrev pub InScope : List Name → ℕ → Ty → Type 0
InScope [] k a = ⊥
InScope (Var l b ∷ more) k a = ((l ≡ k) × (b ≡ a)) ⊎ InScope more k a
InScope (Own i ∷ more) k a = InScope more k a
InScope (Kept ∷ more) k a = InScope more k a

-- the object of a constructor or destructor is not whole, that of another member is
abbrev pub object_ty : Bool → ℕ → Ty
object_ty true c = Raw c
object_ty false c = Obj c

-- a cell in which no reference is whole
abbrev pub IsBareCell : Ty → Type 0
IsBareCell Num = Unit {0}
IsBareCell (Cell a) = ⊥
IsBareCell (Obj c) = ⊥
IsBareCell (Raw c) = Unit {0}
IsBareCell (Row n a) = ⊥
IsBareCell Clu = Unit {0}
IsBareCell Pro = Unit {0}

-- what holds a number alone
abbrev pub IsScalarPlace : Ty → Type 0
IsScalarPlace Num = Unit {0}
IsScalarPlace (Cell Num) = Unit {0}
IsScalarPlace _ = ⊥

-- no reference stands there, and no object that has other fields than scalars, but for what is being built or destroyed
abbrev pub IsBare : Table → Ty → Type 0
IsBare t Num = Unit {0}
IsBare t (Cell a) = IsBareCell a
IsBare t (Obj c) = (i : ℕ) → IsScalarPlace (t.fields c i)
IsBare t (Raw c) = Unit {0}
IsBare t (Row n a) = IsBare t a
IsBare t Clu = Unit {0}
IsBare t Pro = Unit {0}

-- a place of a variable: of a parameter that is a number, or of a local. Of objects `locals` tells the place alone: they are whole where
-- they are in scope, but for the event that a handler keeps
abbrev pub IsVariable : Table → Sig → List Name → ℕ → Ty → Type 0
IsVariable t g sc k a = InScope sc k a ⊎ ((IsParam g.params k Num × (a ≡ Cell Num)) ⊎ (Among g.locals k a × IsBare t a))

-- what an element of an array is kept as
abbrev pub element_shape : Table → Ty → Shape
element_shape t (Obj c) = t.shape c
element_shape t _ = Binding

-- an element is kept so, as far as something may be bound in it
abbrev pub IsKept : Table → Shape → Ty → Type 0
IsKept t s a = (s ≡ element_shape t a) ⊎ IsBare t a

-- what a place holds is read: a number, or what it is bound to
abbrev pub IsRead : Table → Ty → Type 0
IsRead t a = (a ≡ Num) ⊎ (t.refers ≡ true)

-- what is read of a variable: any cell may be read as a number
abbrev pub IsHeld : Table → Sig → List Name → ℕ → Ty → Type 0
IsHeld t g sc k a = (IsParam g.params k a × (k ≤ LAST_ADDRESS)) ⊎ ((a ≡ Num) ⊎ (InScope sc k (Cell a) × (t.refers ≡ true)))

abbrev pub IsInside : Inward → Type 0
IsInside Apart = ⊥
IsInside Enters = Unit {0}
IsInside Makes = Unit {0}
IsInside Helps = Unit {0}
IsInside Main = Unit {0}

-- what is called from anywhere, by other than the making of an object
abbrev pub IsOpen : Inward → Type 0
IsOpen Apart = Unit {0}
IsOpen Enters = Unit {0}
IsOpen Makes = ⊥
IsOpen Helps = ⊥
IsOpen Main = ⊥

-- what is called at the object of an expression: what only helps inside, at the object at hand alone, inside it
abbrev pub MayCall : Inward → Sig → Expr → Type 0
MayCall Apart g e = Unit {0}
MayCall Enters g e = Unit {0}
MayCall Makes g e = ⊥
MayCall Helps g e = (e ≡ OfObject This) × IsInside g.inward
MayCall Main g e = ⊥

-- the object at hand: it is one of a mutex class, and this runs inside it; it has an execution
abbrev pub InMutex : Table → Sig → Type 0
InMutex t g = (c : ℕ) × (g.this ≡ Some c) × (t.mutex c ≡ true) × IsInside g.inward

abbrev pub Executing : Table → Sig → Type 0
Executing t g = (c : ℕ) × (g.this ≡ Some c) × (t.executes c ≡ true)

-- an event is raised at a mutex object that is a task
abbrev pub IsTarget : Table → ℕ → Type 0
IsTarget t c = t.mutex c ≡ true → t.tasks c ≡ true

-- a routine that is there
abbrev pub IsRoutine : Table → ℕ → Type 0
IsRoutine t r = r < t.count

-- a main is at the object at hand, without parameters
abbrev pub IsMain : Table → Sig → ℕ → Type 0
IsMain t g r = ((t.routine r).this ≡ g.this) × ((t.routine r).params ≡ []) × IsRoutine t r

-- what is set up is a main: that of a mutex object where that is built
abbrev pub SetsUp : Inward → Inward → Type 0
SetsUp Main w = w ≡ Makes
SetsUp Apart w = Unit {0}
SetsUp _ w = ⊥

-- what is called is at an object of its class, which is whole unless it is built or destroyed by that; what gives the object is of
-- these types
abbrev pub CalledAt : Table → ℕ → (Ty → Type 0) → Type 0
CalledAt t r gives = (c : ℕ) × gives (object_ty (t.routine r).whole c) × ((t.routine r).this ≡ Some c) × IsRoutine t r

-- it enters a mutex object
abbrev pub EnteredAt : Table → ℕ → (Ty → Type 0) → Type 0
EnteredAt t r gives =
    (c : ℕ) × gives (object_ty (t.routine r).whole c) × ((t.routine r).this ≡ Some c) × IsRoutine t r × (t.mutex c ≡ true)

-- an object of the mutex class of a number is made at a place, and a constructor builds it
abbrev pub MadeAt : Table → ℕ → ℕ → (Ty → Type 0) → Type 0
MadeAt t n r gives =
    (c : ℕ) × gives (Cell (Raw c)) × ((t.routine r).this ≡ Some c) × IsRoutine t r × ((t.routine r).whole ≡ true) × (t.number c ≡ n) × (t.mutex c ≡ true)

module _ (t : Table) (g : Sig) (sc : List Name) where
  abbrev mutual
    -- an expression gives what is of a type
    pub Yields : Expr → Ty → Type 0
    Yields (Literal n) a = a ≡ Num
    Yields (Variable k) a = IsVariable t g sc k a × IsPlaced t a
    Yields (Element n s e i) a = IsPlaced t a × Yields e (Row n a) × Yields i Num × IsKept t s a
    Yields (Get k) a = IsHeld t g sc k a
    Yields (Load e) a = IsRead t a × Yields e (Cell a)
    Yields (Negated e) a = (a ≡ Num) × Yields e Num
    Yields (Not e) a = (a ≡ Num) × Yields e Num
    Yields (AsCharacter e) a = (a ≡ Num) × Yields e Num
    Yields (AsTruth e) a = (a ≡ Num) × Yields e Num
    Yields (Operate op e f) a = (a ≡ Num) × Yields e Num × Yields f Num
    Yields (And e f) a = (a ≡ Num) × Yields e Num × Yields f Num
    Yields (Or e f) a = (a ≡ Num) × Yields e Num × Yields f Num
    Yields (Set k e) a = (a ≡ Num) × Yields e Num
    Yields (Assign p e) a = (a ≡ Num) × Yields p (Cell Num) × Yields e Num
    Yields (First e f) a = Yields e a × ((b : Ty) × Yields f b)
    Yields (Update op s p e) a = (a ≡ Num) × Yields p (Cell Num) × Yields e Num
    Yields (StepBehind op s p) a = (a ≡ Num) × Yields p (Cell Num)
    Yields Fail a = a ≡ Num
    Yields (Call r args) a = (a ≡ Num) × GiveAll args (t.routine r).params × ((t.routine r).this ≡ None) × IsRoutine t r × IsOpen (t.routine r).inward
    Yields (OfObject o) a = ObjectGives o a

    pub GiveAll : Exprs → List Ty → Type 0
    GiveAll NoExprs [] = Unit {0}
    GiveAll NoExprs (a ∷ more) = ⊥
    GiveAll (MoreExprs e es) [] = ⊥
    GiveAll (MoreExprs e es) (a ∷ more) = Yields e a × GiveAll es more

    pub ObjectGives : ObjectExpr → Ty → Type 0
    ObjectGives This a = (c : ℕ) × (g.this ≡ Some c) × (a ≡ Obj c)
    ObjectGives (OwnField s i) a =
        (c : ℕ) × (g.this ≡ Some c) × (s ≡ t.shape c) × IsPlaced t (t.fields c i) × ((a ≡ t.fields c i) ⊎ (a ≡ raw (t.fields c i)))
    ObjectGives (GetOwn s i) a = (c : ℕ) × (g.this ≡ Some c) × (s ≡ t.shape c) × (Cell a ≡ t.fields c i) × IsRead t a
    -- no path leads into a mutex object
    ObjectGives (FieldOf s i e) a = (c : ℕ) × Yields e (Obj c) × (s ≡ t.shape c) × (a ≡ t.fields c i) × IsPlaced t (t.fields c i) × (t.mutex c ≡ false)
    ObjectGives Counted a = a ≡ Num
    ObjectGives (CallOn r e args) a = (a ≡ Num) × CalledAt t r (Yields e) × GiveAll args (t.routine r).params × MayCall (t.routine r).inward g e
    ObjectGives (CallUnwritten r e) a = (a ≡ Num) × CalledAt t r (Yields e) × ([] ≡ (t.routine r).params) × IsOpen (t.routine r).inward
    ObjectGives (CallLive r e args) a = (a ≡ Num) × CalledAt t r (Yields e) × GiveAll args (t.routine r).params × IsOpen (t.routine r).inward
    ObjectGives (EnterOn m r e args) a = (a ≡ Num) × EnteredAt t r (Yields e) × GiveAll args (t.routine r).params × IsOpen (t.routine r).inward
    ObjectGives (EndOn r written e) a = (a ≡ Num) × EnteredAt t r (Yields e) × ([] ≡ (t.routine r).params) × IsOpen (t.routine r).inward
    ObjectGives (Bind p e) a = Yields p (Cell a) × Yields e a
    -- its place is bound to the new object, which the constructor builds
    ObjectGives (MakeOn n r written p args) a = (a ≡ Num) × MadeAt t n r (Yields p) × GiveAll args (t.routine r).params × ((t.routine r).inward ≡ Makes)
    ObjectGives NewCluster a = a ≡ Clu
    ObjectGives (NewProcessor e) a = (a ≡ Pro) × Yields e Clu
    ObjectGives (EndCluster e) a = (a ≡ Num) × Yields e Clu
    ObjectGives (EndProcessor e) a = (a ≡ Num) × Yields e Pro
    -- a condition is known by its number in the object at hand
    ObjectGives (ConditionAt k n e) a = (a ≡ Num) × Yields e Num
    ObjectGives (Wait e f) a = (a ≡ Num) × InMutex t g × Yields e Num × Yields f Num
    ObjectGives (Signal e) a = (a ≡ Num) × InMutex t g × Yields e Num
    ObjectGives (SignalBlock e) a = (a ≡ Num) × InMutex t g × Yields e Num
    ObjectGives (IsEmpty e) a = (a ≡ Num) × InMutex t g × Yields e Num
    ObjectGives (FrontOf e) a = (a ≡ Num) × InMutex t g × Yields e Num

  -- it gives something
  abbrev pub Fine : Expr → Type 0
  Fine e = (a : Ty) × Yields e a

  abbrev pub FineItem : Item → Type 0
  FineItem (Show form e) = Yields e Num
  FineItem (ShowText k) = Unit {0}

  abbrev pub FineItems : List Item → Type 0
  FineItems [] = Unit {0}
  FineItems (i ∷ is) = FineItem i × FineItems is

  abbrev pub FineTargets : List Target → Type 0
  FineTargets [] = Unit {0}
  FineTargets (x ∷ xs) = Yields x.place (Cell Num) × FineTargets xs

  -- a variable that is declared is no parameter
  abbrev pub FineStart : ℕ → Option Expr → Type 0
  FineStart k None = Unit {0}
  FineStart k (Some e) = IsVariable t g sc k (Cell Num) × Yields e Num

  abbrev pub FineDeclared : List Declared → Type 0
  FineDeclared [] = Unit {0}
  FineDeclared (d ∷ ds) = (length g.params ≤ d.cell) × FineStart d.cell d.value × FineDeclared ds

  abbrev pub FineStep : Option Expr → Type 0
  FineStep None = Unit {0}
  FineStep (Some e) = Fine e

  abbrev pub FineFrees : Option ℕ → Type 0
  FineFrees None = Unit {0}
  FineFrees (Some r) = IsMain t g r

  -- what enters an object and leaves it is a member that hands over its value, no constructor and no destructor
  abbrev pub FineClean : CleanUp → Type 0
  FineClean (Destroys e) = Fine e
  FineClean (DestroysAll n e) = Fine e
  FineClean Unwinds = Executing t g
  FineClean Forgets = Executing t g
  FineClean Leaves = InMutex t g × (g.whole ≡ false)
  FineClean Ends = InMutex t g
  FineClean (Frees r) = InMutex t g × FineFrees r
  FineClean (Restores k) = Unit {0}

  -- what is raised: the cells of an event are read as numbers
  abbrev pub FineRaised : Raised → Type 0
  FineRaised (Plainly n) = Unit {0}
  FineRaised (BuiltAt n k e) = (length g.params ≤ k) × Fine e
  FineRaised (AgainFrom k) = Unit {0}

  abbrev pub FineGuards : Clauses → Type 0
  FineGuards NoClauses = Unit {0}
  FineGuards (Otherwise b) = Unit {0}
  FineGuards (MoreClauses guard b cs) = Yields guard Num × FineGuards cs

-- an expression destroys what stands at this place: it calls what is left as a whole, or ends what is known by its number
abbrev pub DestroysAt : Table → Ty → Expr → Expr → Type 0
DestroysAt t (Obj c) place (OfObject (CallOn r e args)) = (place ≡ e) × ((t.routine r).this ≡ Some c) × ((t.routine r).whole ≡ true)
DestroysAt t (Obj c) place (OfObject (CallUnwritten r e)) = (place ≡ e) × ((t.routine r).this ≡ Some c) × ((t.routine r).whole ≡ true)
DestroysAt t (Cell (Obj c)) place (OfObject (EndOn r written (Load e))) = (place ≡ e) × ((t.routine r).this ≡ Some c) × ((t.routine r).whole ≡ true)
DestroysAt t (Cell Clu) place (OfObject (EndCluster (Load e))) = place ≡ e
DestroysAt t (Cell Pro) place (OfObject (EndProcessor (Load e))) = place ≡ e
DestroysAt t _ place _ = ⊥

-- it destroys the counted element of the array of so many there
abbrev pub DestroysEach : Table → Ty → ℕ → Expr → Expr → Type 0
DestroysEach t (Row n a) m place e = (n ≡ m) × DestroysAt t a (Element n (element_shape t a) place (OfObject Counted)) e
DestroysEach t _ m place e = ⊥

abbrev pub CleansAt : Table → Ty → Expr → CleanUp → Type 0
CleansAt t a place (Destroys e) = DestroysAt t a place e
CleansAt t a place (DestroysAll m e) = DestroysEach t a m place e
CleansAt t a place _ = ⊥

-- what a clean-up takes out of scope: a variable, or a field of the object at hand, by what it destroys at its place
abbrev pub Cleans : Table → Sig → Name → CleanUp → Type 0
Cleans t g (Var k a) c = CleansAt t a (Variable k) c
Cleans t g (Own i) c = (d : ℕ) × (g.this ≡ Some d) × CleansAt t (t.fields d i) (OfObject (OwnField (t.shape d) i)) c
Cleans t g Kept Unwinds = Unit {0}
Cleans t g Kept Forgets = Unit {0}
Cleans t g Kept Leaves = Unit {0}
Cleans t g Kept Ends = Unit {0}
Cleans t g Kept (Frees r) = Unit {0}
Cleans t g Kept (Restores k) = Unit {0}
Cleans t g Kept _ = ⊥

-- what cleans up a part of the object that is under construction is fine, and takes something out of scope
abbrev pub FinePart : Table → Sig → List Name → CleanUp → Type 0
FinePart t g sc c = FineClean t g sc c × ((x : Name) × Cleans t g x c)

module _ (t : Table) (g : Sig) where
  abbrev mutual
    pub FineStmt : List Name → Stmt → Type 0
    FineStmt sc (Skip line) = Unit {0}
    FineStmt sc (Block line body) = FineStmts sc body
    FineStmt sc (Whole line body) = FineStmts sc body × (g.whole ≡ true)
    FineStmt sc (Evaluate line a) = Fine t g sc a
    FineStmt sc (Declare line ds) = FineDeclared t g sc ds
    FineStmt sc (Print line items) = FineItems t g sc items
    FineStmt sc (PrintTogether line items) = FineItems t g sc items
    FineStmt sc (Read line xs) = FineTargets t g sc xs
    FineStmt sc (If line e a b) = Yields t g sc e Num × FineStmt sc a × FineStmt sc b
    FineStmt sc (Loop line o e step b) = Yields t g sc e Num × FineStep t g sc step × FineStmt sc b
    FineStmt sc (Break line) = Unit {0}
    FineStmt sc (Continue line) = Unit {0}
    FineStmt sc (Return line None) = Unit {0}
    FineStmt sc (Return line (Some e)) = Yields t g sc e Num × (g.whole ≡ false)
    FineStmt sc (Owes line) = Unit {0}
    FineStmt sc (Fill line n b d) = Fine t g sc b × Fine t g sc d
    FineStmt sc (OfEvents a) = FineEvent sc a
    FineStmt sc (OfTasks a) = FineTask sc a

    pub FineStmts : List Name → Stmts → Type 0
    FineStmts sc Nil = Unit {0}
    FineStmts sc (Then a rest) = FineStmt sc a × FineStmts sc rest
    -- the object is whole in these statements
    FineStmts sc (Scoped c rest) = (x : Name) × Cleans t g x c × FineStmts (x ∷ sc) rest × FineClean t g sc c
    FineStmts sc (Built c rest) = FineStmts sc rest × FinePart t g sc c

    pub FineEvent : List Name → EventStmt → Type 0
    FineEvent sc (Throw line r) = FineRaised t g sc r
    FineEvent sc (Raise line r) = FineRaised t g sc r
    FineEvent sc (Try line body hs) = FineStmts sc body × FineHandlers sc hs
    -- at a task, or at a coroutine
    FineEvent sc (RaiseAt line r e) = FineRaised t g sc r × ((c : ℕ) × Yields t g sc e (Obj c) × IsTarget t c)
    FineEvent sc (Enable line events cell a) = FineStmt (Kept ∷ sc) a
    FineEvent sc (Disable line events cell a) = FineStmt (Kept ∷ sc) a

    pub FineHandlers : List Name → Handlers → Type 0
    FineHandlers sc NoHandlers = Unit {0}
    FineHandlers sc (MoreHandlers resumes event cell line body rest) = FineStmts sc body × FineHandlers sc rest

    pub FineTask : List Name → TaskStmt → Type 0
    FineTask sc (Resume line) = Executing t g
    FineTask sc (Suspend line) = Unit {0}
    FineTask sc (SetUp r) = IsMain t g r × Executing t g × SetsUp (t.routine r).inward g.inward
    FineTask sc Enliven = Executing t g
    FineTask sc TakeDown = Executing t g
    FineTask sc (Yield line) = Unit {0}
    FineTask sc (Migrate line e) = Yields t g sc e Clu
    FineTask sc (Accept line site cs) = InMutex t g × FineGuards t g sc cs × FineClauses sc cs

    -- the branches of an accept statement
    pub FineClauses : List Name → Clauses → Type 0
    FineClauses sc NoClauses = Unit {0}
    FineClauses sc (Otherwise b) = FineStmt sc b
    FineClauses sc (MoreClauses guard b cs) = FineStmt sc b × FineClauses sc cs

  abbrev pub FineLoop : List Name → Expr → Option Expr → Stmt → Type 0
  FineLoop sc e step b = Yields t g sc e Num × FineStep t g sc step × FineStmt sc b
