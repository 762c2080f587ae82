-- The resolved tree of a program, on which the machine runs: each use carries what it names, and each statement its line.
use Rattle.std.specs.Prelude.{ℕ, zero, suc, ◌+◌, ◌-◌, ◌*◌, ◌^◌, ℤ, List, Bool, true, Option, Some, None, slice_get}
use Rattle.uc_tree.specs.declared.kinds.ValueForm.{ValueForm}
use Rattle.uc_tree.specs.Programs.{Site}

-- what a place holds: a scalar, a binding (a reference, a mutex object's number, an execution's name), the end of the fields of a class, a field with those after it, an array
pub data Shape : Type 0 where
  Integer : Shape
  Character : Shape
  Truth : Shape
  Binding : Shape
  Last : Shape
  Field : Shape → Shape → Shape
  Array : ℕ → Shape → Shape

-- how many cells that takes
abbrev pub shape_cells : Shape → ℕ
shape_cells Integer = 1
shape_cells Character = 1
shape_cells Truth = 1
shape_cells Binding = 1
shape_cells Last = 0
shape_cells (Field s t) = shape_cells s + shape_cells t
shape_cells (Array n s) = n * shape_cells s

-- the cells before a field
abbrev pub field_cells : Shape → ℕ → ℕ
field_cells Integer i = 0
field_cells Character i = 0
field_cells Truth i = 0
field_cells Binding i = 0
field_cells Last i = 0
field_cells (Field s t) zero = 0
field_cells (Field s t) (suc i) = shape_cells s + field_cells t i
field_cells (Array n s) i = 0

-- what leaves statements before their end; a return hands over a value, or ends as the routine does
pub data Way : Type 0 where
  ToBreak : Way
  ToContinue : Way
  ToReturn : Way
  ToEnd : Way

-- how a loop turns: its test comes first (`while` and `for`), its body comes first (`do`), or it has no test
pub data Order : Type 0 where
  TestFirst : Order
  BodyFirst : Order
  NoTest : Order

-- an operator of two numbers
pub data Operator : Type 0 where
  Add : Operator
  Sub : Operator
  Mul : Operator
  Div : Operator
  Rem : Operator
  Equal : Operator
  NotEqual : Operator
  Less : Operator
  LessEqual : Operator
  Greater : Operator
  GreaterEqual : Operator

mutual
  -- an expression. A place is a variable, by the first of its cells in the frame, an element of an array, by the length of the
  -- array and what an element holds, or what a reference holds; all others are values. Each leaves one value.
  pub data Expr : Type 0 where
    Literal : ℤ → Expr
    Variable : ℕ → Expr
    Element : ℕ → Shape → Expr → Expr → Expr
    -- what a variable holds: its value, or the place that a reference was bound to
    Get : ℕ → Expr
    -- what a place holds
    Load : Expr → Expr
    Negated : Expr → Expr
    Not : Expr → Expr
    -- the number as a `char`, as a `bool`
    AsCharacter : Expr → Expr
    AsTruth : Expr → Expr
    Operate : Operator → Expr → Expr → Expr
    -- `&&` and `||`, which skip their right side where the left decides
    And : Expr → Expr → Expr
    Or : Expr → Expr → Expr
    -- a value is written to a variable
    Set : ℕ → Expr → Expr
    -- a value is written to a place
    Assign : Expr → Expr → Expr
    -- the first of two values; the second is found and left
    First : Expr → Expr → Expr
    -- what a place of this shape holds is combined with a value, and written to it
    Update : Operator → Shape → Expr → Expr → Expr
    -- one more or one less is written to a place of this shape; the value is the old one
    StepBehind : Operator → Shape → Expr → Expr
    -- whether a read has failed
    Fail : Expr
    -- a call of a written routine by its number, with the value or the place of each argument
    Call : ℕ → Exprs → Expr
    OfObject : ObjectExpr → Expr

  -- expressions in order
  pub data Exprs : Type 0 where
    NoExprs : Exprs
    MoreExprs : Expr → Exprs → Exprs

  -- what asks for an object
  pub data ObjectExpr : Type 0 where
    -- the object of the running member's call
    This : ObjectExpr
    -- the place of a field of that object, by its number, where its class has this shape; and what that place holds
    OwnField : Shape → ℕ → ObjectExpr
    GetOwn : Shape → ℕ → ObjectExpr
    -- the place of a field of the object at a place
    FieldOf : Shape → ℕ → Expr → ObjectExpr
    -- the number of the element of an array that is built or destroyed
    Counted : ObjectExpr
    -- a written routine of a class is called at an object: a member, a constructor or a destructor
    CallOn : ℕ → Expr → Exprs → ObjectExpr
    -- a member is called through a path at a coroutine, which must be live
    CallLive : ℕ → Expr → Exprs → ObjectExpr
    -- so is a constructor or a destructor that nobody wrote, which has no parameters and makes no tick
    CallUnwritten : ℕ → Expr → ObjectExpr
    -- a mutex member, by its number and its routine, is called at an object, which it enters first
    EnterOn : ℕ → ℕ → Expr → Exprs → ObjectExpr
    -- so is the destructor of a mutex type, which is written or not
    EndOn : ℕ → Bool → Expr → ObjectExpr
    -- a reference, or what is known by its number, at the first of two places, is bound to the second, or to a number
    Bind : Expr → Expr → ObjectExpr
    -- a mutex object of this class is made, its place is bound to it, and this constructor, which is written or not, builds it
    MakeOn : ℕ → ℕ → Bool → Expr → Exprs → ObjectExpr
    -- a cluster, and a processor of a cluster, are made, and end, by their numbers
    NewCluster : ObjectExpr
    NewProcessor : Expr → ObjectExpr
    EndCluster : Expr → ObjectExpr
    EndProcessor : Expr → ObjectExpr
    -- the number of an element of an array of so many conditions, the first of which has this number
    ConditionAt : ℕ → ℕ → Expr → ObjectExpr
    -- conditions of the object of the running call, by their numbers: a wait, with what it stores, and the others
    Wait : Expr → Expr → ObjectExpr
    Signal : Expr → ObjectExpr
    SignalBlock : Expr → ObjectExpr
    IsEmpty : Expr → ObjectExpr
    FrontOf : Expr → ObjectExpr

-- a printed item: a value in a form, or a text literal by its number
pub data Item : Type 0 where
  Show : ValueForm → Expr → Item
  ShowText : ℕ → Item

-- a place that is read in a form
pub record Target : Type 0 where
  pub form : ValueForm
  pub place : Expr

-- a declared variable: the first of its cells in the frame, how many there are, and its value, where one is given
pub record Declared : Type 0 where
  pub cell : ℕ
  pub cells : ℕ
  pub value : Option Expr

-- an event that is raised: by its number, with fields that are 0; by its number, where this call of its constructor builds its
-- fields from this cell of the frame on; or again the one that a handler keeps from this cell on
pub data Raised : Type 0 where
  Plainly : ℕ → Raised
  BuiltAt : ℕ → ℕ → Expr → Raised
  AgainFrom : ℕ → Raised

-- what cleans up an object: its destruction; of an array of so many objects, the destruction of the one that is counted; of the
-- coroutine that is built or destroyed, the unwinding of its execution, and that this is no more; of a mutex object, that its
-- running call leaves it, that its destruction ends, and that its building ends: it is free then, or begins as a task with the main
-- of this number, and an event that ends it gives the object up; of events, that those are enabled again which a cell of the frame
-- keeps
pub data CleanUp : Type 0 where
  Destroys : Expr → CleanUp
  DestroysAll : ℕ → Expr → CleanUp
  Unwinds : CleanUp
  Forgets : CleanUp
  Leaves : CleanUp
  Ends : CleanUp
  Frees : Option ℕ → CleanUp
  Restores : ℕ → CleanUp

mutual
  -- a statement, with its line
  pub data Stmt : Type 0 where
    Skip : ℕ → Stmt
    Block : ℕ → Stmts → Stmt
    -- a block that is left as a whole: whatever leaves its statements goes on behind it
    Whole : ℕ → Stmts → Stmt
    Evaluate : ℕ → Expr → Stmt
    Declare : ℕ → List Declared → Stmt
    Print : ℕ → List Item → Stmt
    -- all items are printed at once
    PrintTogether : ℕ → List Item → Stmt
    Read : ℕ → List Target → Stmt
    -- the first statement where the test is not 0, else the second
    If : ℕ → Expr → Stmt → Stmt → Stmt
    -- its test, the step behind its body, and its body
    Loop : ℕ → Order → Expr → Option Expr → Stmt → Stmt
    Break : ℕ → Stmt
    Continue : ℕ → Stmt
    -- with the value that is handed over, as the routine's result keeps it
    Return : ℕ → Option Expr → Stmt
    -- the statements of a routine end here without the value that it owes
    Owes : ℕ → Stmt
    -- so many objects are built from the first one on: what builds the one that is counted, and what destroys it where an event
    -- comes before all are built
    Fill : ℕ → ℕ → Expr → Expr → Stmt
    OfEvents : EventStmt → Stmt
    OfTasks : TaskStmt → Stmt

  -- the statements of a block
  pub data Stmts : Type 0 where
    Nil : Stmts
    Then : Stmt → Stmts → Stmts
    -- an object is in scope in these statements: it is cleaned up behind them, and by what leaves them
    Scoped : CleanUp → Stmts → Stmts
    -- a part of the object that is under construction is built: an event that leaves these statements cleans it up
    Built : CleanUp → Stmts → Stmts

  -- what raises, handles and enables events, with its line
  pub data EventStmt : Type 0 where
    -- an event is thrown; it is resumed
    Throw : ℕ → Raised → EventStmt
    Raise : ℕ → Raised → EventStmt
    -- a guarded block with its handlers
    Try : ℕ → Stmts → Handlers → EventStmt
    -- it is raised at a task or a coroutine
    RaiseAt : ℕ → Raised → Expr → EventStmt
    -- events, by their numbers as bits, are enabled or disabled in a statement; this cell of the frame keeps which were enabled before
    Enable : ℕ → ℕ → ℕ → Stmt → EventStmt
    Disable : ℕ → ℕ → ℕ → Stmt → EventStmt

  -- handlers in order: whether one takes resumptions, its event or every one, the first of the cells that keep the event and its
  -- fields, the line of its block, and its body
  pub data Handlers : Type 0 where
    NoHandlers : Handlers
    MoreHandlers : Bool → Option ℕ → ℕ → ℕ → Stmts → Handlers → Handlers

  -- what coroutines and tasks do, with its line
  pub data TaskStmt : Type 0 where
    -- the coroutine whose member runs is resumed; the running execution is suspended
    Resume : ℕ → TaskStmt
    Suspend : ℕ → TaskStmt
    -- the coroutine that is built gets an execution with the main of this number; it is live. The one that is destroyed is live no
    -- more, and unwound. Nobody wrote these, so they have no line
    SetUp : ℕ → TaskStmt
    Enliven : TaskStmt
    TakeDown : TaskStmt
    -- the task goes to the back of its queue, to a cluster
    Yield : ℕ → TaskStmt
    Migrate : ℕ → Expr → TaskStmt
    -- the accept statement of this number, with its clauses
    Accept : ℕ → ℕ → Clauses → TaskStmt

  -- the clauses of an accept statement: the guard, 1 where none is written, and the branch of each, and the branch of its `_Else`
  pub data Clauses : Type 0 where
    NoClauses : Clauses
    Otherwise : Stmt → Clauses
    MoreClauses : Expr → Stmt → Clauses → Clauses

-- what a routine is: the main of a task; that of a coroutine; a routine without a value, which hands over 0; a routine with a value,
-- whose end is a fault; a constructor, a destructor or a mutex member, of whose statements the body is a block
pub data Purpose : Type 0 where
  TaskMain : Purpose
  CoroutineMain : Purpose
  Procedure : Purpose
  Function : Purpose
  Builder : Purpose

-- a routine: the line of its body's block, the cells of its frame, how many of them hold its parameters, what it is, whether
-- it is written, and its statements: those of its body, in a constructor behind what builds the fields, in a destructor before
-- what destroys them
pub record Routine : Type 0 where
  pub line : ℕ
  pub cells : ℕ
  pub params : ℕ
  pub purpose : Purpose
  pub written : Bool
  pub body : Stmts

-- a class: the cells of an object
pub record Class : Type 0 where
  pub cells : ℕ

-- a program: its routines, the number of its main, its classes by their numbers, its accept statements and its text literals
pub record Source : Type 0 where
  pub routines : List Routine
  pub main : ℕ
  pub classes : List Class
  pub sites : List Site
  pub texts : List (List ℕ)

abbrev pub routine_or_none : Option Routine → Routine
routine_or_none None = record { line = 0; cells = 0; params = 0; purpose = Procedure; written = true; body = Nil }
routine_or_none (Some r) = r

-- a routine by its number
abbrev pub routine_of : Source → ℕ → Routine
routine_of source r = routine_or_none (slice_get source.routines r)

abbrev pub cells_in : Option Class → ℕ
cells_in None = 0
cells_in (Some c) = c.cells

-- the cells of an object of the class of this number
abbrev pub cells_of_class : Source → ℕ → ℕ
cells_of_class source c = cells_in (slice_get source.classes c)

-- how many clauses an accept statement has
abbrev pub clause_count : Clauses → ℕ
clause_count NoClauses = 0
clause_count (Otherwise b) = 0
clause_count (MoreClauses guard b cs) = suc (clause_count cs)

-- all events that there may be, by their numbers as bits
abbrev pub ALL_EVENTS : ℕ
ALL_EVENTS = 2 ^ 64 - 1
