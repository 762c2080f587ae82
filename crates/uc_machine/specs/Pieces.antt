-- What the machine over the resolved tree has to do, piece by piece, its state, and what its steps are made of.
use Rattle.std.specs.Prelude.{ℕ, ◌+◌, ◌-◌, ◌*◌, ◌^◌, min, ◌++◌, ◌&&◌, ℤ, pos, negsuc, ◌+ℤ◌, ◌-ℤ◌, ◌*ℤ◌, int_div, int_rem, int_le, int_lt, List, [], ◌∷◌, length, replicate, Option, Some, None, Bool, true, false, nat_eq, nat_lt, if◌then◌else◌}
use Rattle.std.specs.Int.{int_rem_euclid}
use Rattle.std.specs.Ordering.{int_eq}
use Rattle.uc_tree.specs.declared.limits.TheConstants.{INT_MIN, INT_MAX, CHAR_VALUES}
use Rattle.uc_entry.specs.declared.request.TheConstants.{PRINT_ITEMS}
use Rattle.uc_tree.specs.Source.{Shape, shape_cells, field_cells, Operator, Add, Sub, Mul, Div, Rem, Equal, NotEqual, Less, LessEqual, Greater, GreaterEqual, Expr, Exprs, Item, Target, Declared, Order, Way, Stmt, CleanUp, Destroys, DestroysAll, Unwinds, Forgets, Leaves, Ends, Frees, Restores, Stmts, Handlers, Clauses}
use Rattle.uc_tree.specs.declared.kinds.ValueForm.{ValueForm}
use Rattle.uc_machine.specs.declared.exec.Exec.{Exec}
use Rattle.uc_machine.specs.declared.exec.Owner.{Owner}
use Rattle.uc_machine.specs.declared.exec.Owner.TheVariants.{Frame, Fields}
use Rattle.uc_entry.specs.declared.fault.RunFault.{RunFault}
use Rattle.uc_entry.specs.declared.fault.RunFault.TheVariants.{Overflow, DivideByZero, Index}
use Rattle.uc_entry.specs.Faults.{fault_number}
use Rattle.uc_entry.specs.declared.request.Piece.{Piece}
use Rattle.uc_entry.specs.declared.request.Request.{Request}
use Rattle.uc_entry.specs.declared.request.Request.TheVariants as ask
use Rattle.uc_machine.specs.Executions as exec
use Rattle.uc_machine.specs.Switches.{Moved, To, Stops}
use Rattle.uc_machine.specs.Executions.{returned, value_at, with_owned, value_changed, values_cleared}

-- a step of a path: a variable of a frame, by the first of its cells; a field of a class; an element of an array of that shape
pub data Link : Type 0 where
  Slot : ℕ → Link
  FieldAt : Shape → ℕ → Link
  At : Shape → ℕ → Link

-- a number; a place, by what holds it and the path there, its last step first; an execution; a mutex object; or nothing
pub data Value : Type 0 where
  Number : ℤ → Value
  Place : Owner → List Link → Value
  Running : Exec → Value
  Object : ℕ → Value
  Nothing : Value

-- what an activation has to do, the innermost first
pub data Todo : Type 0 where
  -- find a place, or evaluate
  Eval : Expr → Todo
  -- one thing with the newest operands
  LoadNow : Todo
  ElementNow : ℕ → Shape → Todo
  -- the place of a field, by its number, in the object at the newest operand, whose class has this shape
  FieldNow : Shape → ℕ → Todo
  NegateNow : Todo
  NotNow : Todo
  CharacterNow : Todo
  TruthNow : Todo
  OperateNow : Operator → Todo
  -- the newest operand once more, the one below it once more
  CopyNow : Todo
  CopyBelowNow : Todo
  -- the newest operand goes, the one below it goes
  DropNow : Todo
  DropBelowNow : Todo
  -- the newest operand is written as a number to the place below it, and goes or stays; it is written so to a variable, and stays
  StoreNow : Todo
  KeepNow : Todo
  SetNow : ℕ → Todo
  -- the place below the newest operand is bound to that, which stays
  BindNow : Todo
  -- the first expression where the newest operand is not 0, else the second; so for statements
  Choose : Expr → Expr → Todo
  Branch : Stmt → Stmt → Todo
  -- what is left of the arguments of a call; a tick; and a call of a routine with the newest operands
  Arguments : Exprs → Todo
  TickNow : Todo
  CallNow : ℕ → Todo
  -- the same of a routine of a class at the object below its arguments; and of one that nobody wrote
  CallOnNow : ℕ → Todo
  CallUnwrittenNow : ℕ → Todo
  -- so many elements of an array stand; one more
  CountNow : ℕ → Todo
  MoreNow : Todo
  -- a mark too: elements are built up to so many: what builds and what destroys the one that is counted
  FillNow : ℕ → Expr → Expr → Todo
  -- a turn of a loop begins, by a tick: how it turns, its test, its step and its body; it begins where the newest operand is
  -- not 0
  TurnNow : Order → Expr → Option Expr → Stmt → Todo
  Again : Order → Expr → Option Expr → Stmt → Todo
  -- print the newest operand in this form, a text literal; gathered items are printed at once
  PrintNow : ValueForm → Todo
  TextNow : ℕ → Todo
  GatherNow : Todo
  FlushNow : Todo
  -- read in this form
  ReadNow : ValueForm → Todo
  -- so many cells of the frame start anew
  ClearNow : ℕ → ℕ → Todo
  -- what is left of a statement's items, of those that are printed at once, of its targets, of its variables
  Items : List Item → Todo
  Values : List Item → Todo
  Pieces : List Item → Todo
  Targets : List Target → Todo
  Variables : List Declared → Todo
  Do : Stmt → Todo
  -- the statements that are left of a block
  Rest : Stmts → Todo
  -- what stands before is of a statement of this line
  Within : ℕ → Todo
  -- all up to a loop, or to the end of the activation, is left
  Exit : Way → Todo
  -- a routine ends without the value that it owes
  NoReturnNow : Todo
  -- marks. What stands before is the body of a loop, of a turn of it
  InLoop : Order → Expr → Option Expr → Stmt → Todo
  -- what stands before is a block that is left as a whole
  InWhole : Todo
  -- an object is in scope in what stands before: it is cleaned up here
  Clean : CleanUp → Todo
  -- elements are destroyed, the last one first
  Sweep : Expr → Todo
  -- what stands before builds an object, of which this part is built: only an event that leaves it cleans the part up
  Part : CleanUp → Todo
  -- what stands before is a guarded block, with these handlers
  Guard : Handlers → Todo
  -- all up to a handler, to the routine in which a handler returns, or to the end of the execution is left
  Unwind : Todo
  -- an event is thrown, or resumed: its number and its fields are the newest operands, the last field the newest
  ThrowNow : Todo
  RaiseNow : Todo
  -- of the object at hand, which is a coroutine: an execution with the main of this number is made for it; it is live, is live no more
  -- and unwound, is no more
  SetUpNow : ℕ → Todo
  EnlivenNow : Todo
  TakeDownNow : Todo
  ForgetNow : Todo
  -- the coroutine below the arguments of this routine must be live
  LiveNow : ℕ → Todo
  -- a mutex call of this member, by this routine, at the object below the arguments enters that; the call of the member leaves the
  -- object at hand
  EnterNow : ℕ → ℕ → Todo
  LeaveNow : Todo
  -- a mutex object of this class is made, which this constructor builds; the place below the arguments is bound to its number, the
  -- newest operand, which then takes its place there
  MakeNow : ℕ → ℕ → Todo
  BindMadeNow : ℕ → ℕ → Todo
  -- the mutex object at hand is free; it begins as a task with this main, which a piece that does nothing else tells; it is gone; its
  -- building is given up
  MadeNow : Todo
  SpawnNow : ℕ → Todo
  ChildNow : ℕ → Todo
  GoneNow : Todo
  GiveUpNow : Todo
  -- a cluster is made, and a processor of the cluster at the newest operand; they end
  ClusterNow : Todo
  ProcessorNow : Todo
  ClusterEndNow : Todo
  ProcessorEndNow : Todo
  -- the number of a condition of an array of so many, the first of which has this number
  ConditionNow : ℕ → ℕ → Todo
  -- calls of the condition at the newest operand; a wait stores the newest one
  WaitNow : Todo
  SignalNow : Todo
  SignalBlockNow : Todo
  EmptyNow : Todo
  FrontNow : Todo
  -- a task goes to the back of its queue, to the cluster at the newest operand
  YieldNow : Todo
  MigrateNow : Todo
  -- what is left of the guards of an accept statement; so many of them are asked with the statement of this number; where the call that
  -- it took has failed, that is resumed as an event; the branch of the clause at the newest operand
  Guards : Clauses → Todo
  AcceptNow : ℕ → ℕ → Todo
  FailedNow : Todo
  ChooseNow : Clauses → Todo
  -- an event is raised at the task or the coroutine at the newest operand; its number and its fields lie below
  RaiseAtNow : Todo
  -- these events are enabled too, or are no more, and a cell of the frame keeps which were enabled before; those are again
  EnableNow : ℕ → ℕ → Todo
  DisableNow : ℕ → ℕ → Todo
  RestoreNow : ℕ → Todo
  -- an enabled event is asked for; the one that was delivered as the newest operands is resumed, and the next one asked for
  PollNow : Todo
  DeliverNow : Todo
  -- the coroutine at hand is resumed; the running execution is suspended; where it stopped it goes on, or is unwound
  ResumeNow : Todo
  SuspendNow : Todo
  Land : Todo
  -- the end of a task's main, and of a coroutine's, which have a line
  Finish : Todo
  FinishCoroutine : Todo

-- what a piece is for one who leaves it: nothing; a loop; a block that is left as a whole; the scope of an object; an array that is
-- being built or destroyed; a part of an object that is being built; a guarded block; or the end of a main, of a task or of a
-- coroutine, behind which nothing is to do
pub data Sort : Type 0 where
  Simple : Sort
  IsLoop : Order → Expr → Option Expr → Stmt → Sort
  IsWhole : Sort
  IsClean : CleanUp → Sort
  IsFill : ℕ → Expr → Expr → Sort
  IsSweep : Expr → Sort
  IsPart : CleanUp → Sort
  IsGuard : Handlers → Sort
  IsFinish : Sort
  IsFinishCoroutine : Sort

abbrev pub sort : Todo → Sort
sort (InLoop o t s b) = IsLoop o t s b
sort InWhole = IsWhole
sort (Clean c) = IsClean c
sort (FillNow n b d) = IsFill n b d
sort (Sweep e) = IsSweep e
sort (Part c) = IsPart c
sort (Guard hs) = IsGuard hs
sort Finish = IsFinish
sort FinishCoroutine = IsFinishCoroutine
sort _ = Simple

abbrev pub Active : Type 0
Active = exec.Activation (List Todo) Value

abbrev pub State : Type 0
State = exec.State (List Todo) Value

abbrev pub Env : Type 0
Env = exec.Env (List Todo) Value

abbrev pub Members : Type 0
Members = exec.Members (List Todo) Value

-- one step: it goes on, it goes on and counts a tick, or it asks
pub data Step : Type 0 where
  Goes : State → Step
  Ticks : State → Step
  Asks : Request → State → Step

-- operands

-- the newest operand, and what lies below
abbrev pub top : List Value → Value
top [] = Nothing
top (v ∷ vs) = v

abbrev pub below : List Value → List Value
below [] = []
below (v ∷ vs) = vs

-- a mutex object, a cluster or a processor by its number
abbrev pub object_in : Value → ℕ
object_in (Number n) = 0
object_in (Place o p) = 0
object_in (Running e) = 0
object_in (Object o) = o
object_in Nothing = 0

-- a value as a number
abbrev pub number : Value → ℤ
number (Number n) = n
number (Place o p) = pos 0
number (Running e) = pos 0
number (Object o) = pos 0
number Nothing = pos 0

-- numbers

-- a number that counts something
abbrev pub as_number : ℤ → ℕ
as_number (pos n) = n
as_number (negsuc n) = 0

-- whether a number is an `int`
abbrev pub fits : ℤ → Bool
fits n = int_le INT_MIN n && int_le n INT_MAX

abbrev pub is_zero : ℤ → Bool
is_zero n = int_eq n (pos 0)

abbrev pub truth : Bool → ℤ
truth true = pos 1
truth false = pos 0

abbrev pub as_character : ℤ → ℤ
as_character n = int_rem_euclid n CHAR_VALUES

abbrev pub as_truth : ℤ → ℤ
as_truth n = if is_zero n then pos 0 else pos 1

-- what an operator gives: a number, or a fault
pub data Outcome : Type 0 where
  Gives : ℤ → Outcome
  Faults : RunFault → Outcome

-- a number that must be an `int`
abbrev pub int_outcome : ℤ → Outcome
int_outcome n = if fits n then Gives n else Faults Overflow

abbrev pub outcome : Operator → ℤ → ℤ → Outcome
outcome Add x y = int_outcome (x +ℤ y)
outcome Sub x y = int_outcome (x -ℤ y)
outcome Mul x y = int_outcome (x *ℤ y)
outcome Div x y = if is_zero y then Faults DivideByZero else int_outcome (int_div x y)
outcome Rem x y = if is_zero y then Faults DivideByZero else int_outcome (int_rem x y)
outcome Equal x y = Gives (truth (int_eq x y))
outcome NotEqual x y = Gives (truth (if int_eq x y then false else true))
outcome Less x y = Gives (truth (int_lt x y))
outcome LessEqual x y = Gives (truth (int_le x y))
outcome Greater x y = Gives (truth (int_lt y x))
outcome GreaterEqual x y = Gives (truth (int_le y x))

-- memory

-- how far a step leads
abbrev pub link_cells : Link → ℕ
link_cells (Slot k) = k
link_cells (FieldAt s i) = field_cells s i
link_cells (At s i) = i * shape_cells s

-- addresses go up to the largest number
abbrev pub LAST_ADDRESS : ℕ
LAST_ADDRESS = 2 ^ 64 - 1

-- the sum of the sizes before a place
abbrev pub address : List Link → ℕ
address [] = 0
address (l ∷ p) = min (address p + link_cells l) LAST_ADDRESS

-- a place one step further; a mutex object leads to its fields
abbrev pub further : Link → Value → Value
further l (Number n) = Nothing
further l (Place o p) = Place o (l ∷ p)
further l (Running e) = Nothing
further l (Object o) = Place (Fields o) (l ∷ [])
further l Nothing = Nothing

abbrev pub nought : Value
nought = Number (pos 0)

-- what a place holds, a mutex object its first cell
abbrev pub loaded : Value → Env → Value
loaded (Number n) e = nought
loaded (Place o p) e = value_at o (address p) nought e
loaded (Running x) e = nought
loaded (Object o) e = value_at (Fields o) 0 nought e
loaded Nothing e = nought

-- bindings are written once: a number or another value leaves a place, an execution or an object as it is
abbrev pub stored : Value → Value → Value
stored v (Number n) = v
stored v (Place o p) = Place o p
stored v (Running e) = Running e
stored v (Object o) = Object o
stored v Nothing = v

-- a value is written to a place
abbrev pub written : Value → Value → Env → Env
written (Number n) v e = e
written (Place o p) v e = with_owned o (value_changed (address p) (stored v) nought) e
written (Running x) v e = e
written (Object o) v e = with_owned (Fields o) (value_changed 0 (stored v) nought) e
written Nothing v e = e

-- the frame of the running activation
abbrev pub this_frame : State → Owner
this_frame s = Frame s.env.exec s.run.frame

abbrev pub variable_at : ℕ → State → Value
variable_at k s = Place (this_frame s) (Slot k ∷ [])

-- so many cells of that frame are 0
abbrev pub cleared : ℕ → ℕ → State → Env
cleared k n s = with_owned (this_frame s) (values_cleared k n nought) s.env

-- an index below n
abbrev pub index_in : ℕ → ℤ → Option ℕ
index_in n (pos i) = if nat_lt i n then Some i else None
index_in n (negsuc i) = None

-- printing

-- the request to print these items, at most as many as one request holds
abbrev pub blank : Piece
blank = record { form = 0; value = pos 0 }

abbrev pub print_of : List Piece → Request
print_of ps = ask.Print (length ps) (ps ++ replicate (PRINT_ITEMS - length ps) blank)

abbrev pub piece : ℕ → ℤ → Piece
piece form n = record { form = form; value = n }

-- one more gathered item, in front of the others; past the last that a request holds there is no room
abbrev pub with_piece : Piece → List Piece → List Piece
with_piece p ps = if nat_lt (length ps) PRINT_ITEMS then p ∷ ps else ps

-- lines

-- the line of the innermost statement of an activation, 0 before its first statement and after its last
abbrev pub own_line : List Todo → ℕ
own_line [] = 0
own_line (Within line ∷ todo) = line
own_line (_ ∷ todo) = own_line todo

-- an activation without a line of its own has that of its caller
abbrev pub line_from : ℕ → List Active → ℕ
line_from l [] = l
line_from l (c ∷ cs) = if nat_eq l 0 then line_from (own_line c.control) cs else l

-- the line of the innermost statement that runs
abbrev pub line_of : State → ℕ
line_of s = line_from (own_line s.run.control) s.callers

-- steps

-- this is to do, with these operands
abbrev pub at : List Todo → List Value → State → State
at todo operands s = record s { run = record s.run { control = todo; operands = operands } }

abbrev pub in_env : Env → State → State
in_env e s = record s { env = e }

abbrev pub goes : List Todo → List Value → State → Step
goes todo operands s = Goes (at todo operands s)

abbrev pub fault : RunFault → List Todo → List Value → State → Step
fault f todo operands s = Asks (ask.Fault (fault_number f)) (at todo operands s)

abbrev pub asks : Request → List Todo → List Value → State → Step
asks r todo operands s = Asks r (at todo operands s)

abbrev pub outcome_step : Outcome → List Todo → List Value → State → Step
outcome_step (Gives n) todo vs s = goes todo (Number n ∷ vs) s
outcome_step (Faults f) todo vs s = fault f todo vs s

abbrev pub element_step : Shape → Option ℕ → List Todo → Value → List Value → State → Step
element_step k None todo v vs s = fault Index todo vs s
element_step k (Some i) todo v vs s = goes todo (further (At k i) v ∷ vs) s

-- an item is printed in an act of its own, or gathered
abbrev pub print_step : Option (List Piece) → Piece → List Todo → List Value → State → Step
print_step None p todo vs s = Asks (print_of (p ∷ [])) (at todo vs s)
print_step (Some ps) p todo vs s = goes todo vs (in_env (record s.env { gathered = Some (with_piece p ps) }) s)

-- what was gathered is printed, if there is anything
abbrev pub flush_step : Option (List Piece) → List Todo → List Value → State → Step
flush_step None todo vs s = goes todo vs s
flush_step (Some []) todo vs s = goes todo vs (in_env (record s.env { gathered = None }) s)
flush_step (Some (p ∷ ps)) todo vs s = Asks (print_of (p ∷ ps)) (at todo vs (in_env (record s.env { gathered = None }) s))

-- the end of an activation, with what it hands over; behind the last one the task ends
abbrev pub return_step : Value → List Active → State → Step
return_step given [] s = Asks ask.End s
return_step given (c ∷ cs) s = Goes (returned (Some given) s.run.counts c cs s.env)

-- this is to do in the place of a piece, with the same operands
abbrev pub turns : List Todo → State → Step
turns todo s = goes todo s.run.operands s

-- a switch, or a fault in this state
abbrev pub moves : Moved (List Todo) Value → State → Step
moves (To t) s = Goes t
moves (Stops f) s = Asks (ask.Fault (fault_number f)) s

-- the execution of the coroutine at a place, which its first cell names
abbrev pub exec_in : Value → Option Exec
exec_in (Number n) = None
exec_in (Place o p) = None
exec_in (Running n) = Some n
exec_in (Object o) = None
exec_in Nothing = None

abbrev pub exec_at : Value → Env → Option Exec
exec_at v e = exec_in (loaded v e)

-- that of the object at hand
abbrev pub own_exec : State → Option Exec
own_exec s = exec_at s.run.this s.env

-- clean-ups

-- an object is destroyed; so are all elements of an array
abbrev pub clean_todo : CleanUp → List Todo → List Todo
clean_todo (Destroys e) todo = Eval e ∷ (DropNow ∷ todo)
clean_todo (DestroysAll n e) todo = CountNow n ∷ (Sweep e ∷ todo)
clean_todo Unwinds todo = TakeDownNow ∷ todo
clean_todo Forgets todo = ForgetNow ∷ todo
clean_todo Leaves todo = LeaveNow ∷ todo
clean_todo Ends todo = GoneNow ∷ todo
clean_todo (Frees None) todo = MadeNow ∷ todo
clean_todo (Frees (Some r)) todo = SpawnNow r ∷ todo
clean_todo (Restores k) todo = RestoreNow k ∷ todo
