-- The machine over the resolved tree: one quiet step of a task with its hand.
use Rattle.std.specs.Prelude.{◌≡◌, ℕ, zero, suc, ◌+◌, ◌-◌, ◌*◌, ◌^◌, min, pos, neg_ℤ, List, [], ◌∷◌, length, replicate, drop, slice_get, slice_set, Option, Some, None, Bool, true, false, nat_eq, nat_lt, if◌then◌else◌}
use Rattle.uc_tree.specs.declared.limits.TheConstants.{CALLS, DESTRUCTOR, PENDING_EVENTS, FAILURE}
use Rattle.uc_tree.specs.Source.{Shape, Character, Truth, Expr, Literal, Variable, Element, Load, Negated, Not, AsCharacter, AsTruth, Operate, And, Or, Assign, Update, StepBehind, Fail, Get, Set, First, Call, OfObject, ObjectExpr, This, OwnField, GetOwn, FieldOf, Counted, CallOn, CallUnwritten, CallLive, EnterOn, EndOn, Bind, MakeOn, NewCluster, NewProcessor, EndCluster, EndProcessor, ConditionAt, Wait, Signal, SignalBlock, IsEmpty, FrontOf, NoExprs, MoreExprs, Item, Show, ShowText, Order, TestFirst, BodyFirst, NoTest, Way, ToBreak, ToContinue, ToReturn, ToEnd, Stmt, Skip, Block, Whole, Evaluate, Declare, Print, PrintTogether, Read, If, Loop, Break, Continue, Return, Owes, Restores, Clauses, NoClauses, Otherwise, MoreClauses, clause_count, Fill, OfEvents, OfTasks, Stmts, Nil, Then, Scoped, Built, Purpose, TaskMain, CoroutineMain, Procedure, Function, Builder, Routine, Source, EventStmt, Throw, Raise, Try, RaiseAt, Enable, Disable, TaskStmt, Resume, Suspend, SetUp, Enliven, TakeDown, Yield, Migrate, Accept}
use Rattle.uc_tree.specs.ValueForms.{form_number}
use Rattle.uc_machine.specs.declared.exec.Home.TheVariants as home
use Rattle.uc_machine.specs.declared.exec.UnwindReason.{UnwindReason}
use Rattle.uc_machine.specs.declared.exec.UnwindReason.TheVariants as reason
use Rattle.uc_machine.specs.declared.exec.Pending.{Pending}
use Rattle.uc_entry.specs.declared.request.Request.{Request}
use Rattle.uc_machine.specs.declared.exec.Exec.{Exec}
use Rattle.uc_machine.specs.declared.exec.Home.{Home}
use Rattle.uc_entry.specs.declared.fault.RunFault.TheVariants.{Index, Depth, BlockedInside, NoReturn, TooManyPending, NotLive}
use Rattle.uc_entry.specs.declared.request.TheConstants.{TEXT_FORM}
use Rattle.uc_entry.specs.declared.request.Request.TheVariants as ask
use Rattle.uc_machine.specs.Executions as exec
use Rattle.uc_machine.specs.Executions.{no_links, take_operands, begun, entered}
use Rattle.uc_entry.specs.Keyed.{find}
use Rattle.uc_machine.specs.Switches.{home_in, fresh_links, new_exec, born, forgotten, is_live, enlivened, wake, suspend, finish, take_down}
use Rattle.uc_entry.specs.Keyed.{signed_64}
use Rattle.uc_machine.specs.Insides.{is_last, call_begun, call_ended, call_gone, build_begun, build_ended, counted_no_more, is_held_up, is_own, pending_at, raised_at, oldest_enabled, without_oldest, with_enabled, enabled_more, enabled_less, events_in}
pub use Rattle.uc_machine.specs.Monitors.{unless_held_up, may_call, enter_at, enter_on, enter_step, leave_todo, by_event, leave_at, leave_on, make_step, bind_at, bind_step, built_step, gone_step, this_object, condition_in, condition_step, wait_step, signal_block_step, mask_of, accept_by, accept_step, failed_step, branch_todo}
pub use Rattle.uc_machine.specs.Polls.{pend_step, pend_at, raise_at_step, enable_step, quiet_poll, poll_by, poll_step, deliver_step}
use Rattle.uc_machine.specs.Raising.{Event, event_in, raised_todo, throw_step, unwinds, unwind_step, home_of, raise_step, end_by}
pub use Rattle.uc_machine.specs.Pieces.{Link, Value, Todo, Sort, sort, Active, State, Env, Members, Step, top, below, number, fits, is_zero, truth, as_character, as_truth, Outcome, int_outcome, outcome, link_cells, LAST_ADDRESS, address, further, nought, loaded, stored, written, this_frame, variable_at, cleared, index_in, blank, print_of, piece, with_piece, own_line, line_from, line_of, at, in_env, goes, fault, outcome_step, element_step, print_step, flush_step, return_step, turns, moves, exec_in, exec_at, own_exec, clean_todo, asks, object_in, as_number, EnterNow, LeaveNow, BindNow, MakeNow, BindMadeNow, MadeNow, SpawnNow, ChildNow, GoneNow, GiveUpNow, ClusterNow, ProcessorNow, ClusterEndNow, ProcessorEndNow, ConditionNow, WaitNow, SignalNow, SignalBlockNow, EmptyNow, FrontNow, YieldNow, MigrateNow, Guards, AcceptNow, FailedNow, ChooseNow, RaiseAtNow, EnableNow, DisableNow, RestoreNow, PollNow, DeliverNow, Slot, FieldAt, At, Number, Place, Running, Object, Nothing, Eval, LoadNow, ElementNow, FieldNow, NegateNow, NotNow, CharacterNow, TruthNow, OperateNow, CopyNow, CopyBelowNow, DropNow, DropBelowNow, StoreNow, KeepNow, SetNow, Choose, Branch, Arguments, TickNow, CallNow, CallOnNow, CallUnwrittenNow, CountNow, MoreNow, FillNow, TurnNow, Again, PrintNow, TextNow, GatherNow, FlushNow, ReadNow, ClearNow, Items, Values, Pieces, Targets, Variables, Do, Rest, Within, Exit, NoReturnNow, InLoop, InWhole, Clean, Sweep, Part, Guard, Unwind, ThrowNow, RaiseNow, SetUpNow, EnlivenNow, TakeDownNow, ForgetNow, LiveNow, ResumeNow, SuspendNow, Land, Finish, FinishCoroutine, Simple, IsLoop, IsWhole, IsClean, IsFill, IsSweep, IsPart, IsGuard, IsFinish, IsFinishCoroutine, Goes, Ticks, Asks, Gives, Faults}

-- a value as it is kept in a scalar of this shape
abbrev pub converting : Shape → List Todo → List Todo
converting Character todo = CharacterNow ∷ todo
converting Truth todo = TruthNow ∷ todo
converting _ todo = todo

-- a variable starts at 0, and then has its value, if there is one
abbrev pub starting : ℕ → Option Expr → List Todo → List Todo
starting cell None todo = todo
starting cell (Some e) todo = Eval (Variable cell) ∷ (Eval e ∷ (StoreNow ∷ todo))

-- the value of an item that is printed with others
abbrev pub item_value : Item → List Todo → List Todo
item_value (Show form e) todo = Eval e ∷ todo
item_value (ShowText k) todo = todo

-- an item whose value is the newest operand
abbrev pub item_piece : Item → Todo
item_piece (Show form e) = PrintNow form
item_piece (ShowText k) = TextNow k

abbrev pub item_todo : Item → List Todo → List Todo
item_todo i todo = item_value i (item_piece i ∷ todo)

-- to find an object, a field, or to call a routine of a class
abbrev pub object_step : ObjectExpr → List Todo → State → Step
object_step This todo s = goes todo (s.run.this ∷ s.run.operands) s
object_step (OwnField k i) todo s = goes todo (further (FieldAt k i) s.run.this ∷ s.run.operands) s
object_step (GetOwn k i) todo s = goes todo (loaded (further (FieldAt k i) s.run.this) s.env ∷ s.run.operands) s
object_step Counted todo s = goes todo (Number (pos s.run.elements) ∷ s.run.operands) s
object_step (FieldOf k i a) todo s = turns (Eval a ∷ (FieldNow k i ∷ todo)) s
object_step (CallOn r a args) todo s = turns (Eval a ∷ (Arguments args ∷ (TickNow ∷ (CallOnNow r ∷ todo)))) s
object_step (CallLive r a args) todo s = turns (Eval a ∷ (Arguments args ∷ (TickNow ∷ (LiveNow r ∷ (CallOnNow r ∷ todo))))) s
object_step (CallUnwritten r a) todo s = turns (Eval a ∷ (CallUnwrittenNow r ∷ todo)) s
object_step (EnterOn m r a args) todo s = turns (Eval a ∷ (Arguments args ∷ (TickNow ∷ (EnterNow m r ∷ (CallOnNow r ∷ todo))))) s
object_step (EndOn r false a) todo s = turns (Eval a ∷ (EnterNow DESTRUCTOR r ∷ (CallUnwrittenNow r ∷ todo))) s
object_step (EndOn r true a) todo s = turns (Eval a ∷ (TickNow ∷ (EnterNow DESTRUCTOR r ∷ (CallOnNow r ∷ todo)))) s
object_step (MakeOn c r false a args) todo s = turns (Eval a ∷ (Arguments args ∷ (MakeNow c r ∷ (CallUnwrittenNow r ∷ todo)))) s
object_step (MakeOn c r true a args) todo s = turns (Eval a ∷ (Arguments args ∷ (TickNow ∷ (MakeNow c r ∷ (CallOnNow r ∷ todo))))) s
object_step (Bind a b) todo s = turns (Eval a ∷ (Eval b ∷ (BindNow ∷ todo))) s
object_step NewCluster todo s = turns (ClusterNow ∷ todo) s
object_step (NewProcessor a) todo s = turns (Eval a ∷ (ProcessorNow ∷ todo)) s
object_step (EndCluster a) todo s = turns (Eval a ∷ (ClusterEndNow ∷ todo)) s
object_step (EndProcessor a) todo s = turns (Eval a ∷ (ProcessorEndNow ∷ todo)) s
object_step (ConditionAt k n a) todo s = turns (Eval a ∷ (ConditionNow k n ∷ todo)) s
object_step (Wait a b) todo s = turns (Eval a ∷ (Eval b ∷ (WaitNow ∷ (PollNow ∷ todo)))) s
object_step (Signal a) todo s = turns (Eval a ∷ (SignalNow ∷ todo)) s
object_step (SignalBlock a) todo s = turns (Eval a ∷ (SignalBlockNow ∷ todo)) s
object_step (IsEmpty a) todo s = turns (Eval a ∷ (EmptyNow ∷ todo)) s
object_step (FrontOf a) todo s = turns (Eval a ∷ (FrontNow ∷ todo)) s

-- to find a place or to evaluate
abbrev pub eval_step : Expr → List Todo → State → Step
eval_step (Literal n) todo s = goes todo (Number n ∷ s.run.operands) s
eval_step (Variable k) todo s = goes todo (variable_at k s ∷ s.run.operands) s
eval_step (Element n k a i) todo s = turns (Eval a ∷ (Eval i ∷ (ElementNow n k ∷ todo))) s
eval_step (Load a) todo s = turns (Eval a ∷ (LoadNow ∷ todo)) s
eval_step (Negated a) todo s = turns (Eval a ∷ (NegateNow ∷ todo)) s
eval_step (Not a) todo s = turns (Eval a ∷ (NotNow ∷ todo)) s
eval_step (AsCharacter a) todo s = turns (Eval a ∷ (CharacterNow ∷ todo)) s
eval_step (AsTruth a) todo s = turns (Eval a ∷ (TruthNow ∷ todo)) s
eval_step (Operate op a b) todo s = turns (Eval a ∷ (Eval b ∷ (OperateNow op ∷ todo))) s
eval_step (And a b) todo s = turns (Eval a ∷ (Choose (AsTruth b) (Literal (pos 0)) ∷ todo)) s
eval_step (Or a b) todo s = turns (Eval a ∷ (Choose (Literal (pos 1)) (AsTruth b) ∷ todo)) s
eval_step (Assign p a) todo s = turns (Eval p ∷ (Eval a ∷ (KeepNow ∷ todo))) s
eval_step (Update op k p a) todo s =
    turns (Eval p ∷ (CopyNow ∷ (LoadNow ∷ (Eval a ∷ (OperateNow op ∷ converting k (KeepNow ∷ todo)))))) s
eval_step (StepBehind op k p) todo s =
    turns (Eval p ∷ (CopyNow ∷ (LoadNow ∷ (CopyBelowNow ∷ (CopyBelowNow ∷ (Eval (Literal (pos 1)) ∷ (OperateNow op ∷ converting k (StoreNow ∷ (DropBelowNow ∷ todo))))))))) s
eval_step Fail todo s = Asks ask.Fail (at todo s.run.operands s)
eval_step (Get k) todo s = goes todo (loaded (variable_at k s) s.env ∷ s.run.operands) s
eval_step (Set k a) todo s = turns (Eval a ∷ (SetNow k ∷ todo)) s
eval_step (First a b) todo s = turns (Eval a ∷ (Eval b ∷ (DropNow ∷ todo))) s
eval_step (Call r args) todo s = turns (Arguments args ∷ (TickNow ∷ (CallNow r ∷ todo))) s
eval_step (OfObject o) todo s = object_step o todo s

-- loops

-- the step behind the body, if there is one
abbrev pub step_todo : Option Expr → List Todo → List Todo
step_todo None todo = todo
step_todo (Some e) todo = Eval e ∷ (DropNow ∷ todo)

-- the test, if there is one, and another turn
abbrev pub test_todo : Order → Expr → Option Expr → Stmt → List Todo → List Todo
test_todo TestFirst t e b todo = Eval t ∷ (Again TestFirst t e b ∷ todo)
test_todo BodyFirst t e b todo = Eval t ∷ (Again BodyFirst t e b ∷ todo)
test_todo NoTest t e b todo = TurnNow NoTest t e b ∷ todo

-- a loop begins with its test, or with a turn
abbrev pub loop_todo : Order → Expr → Option Expr → Stmt → List Todo → List Todo
loop_todo TestFirst t e b todo = test_todo TestFirst t e b todo
loop_todo BodyFirst t e b todo = TurnNow BodyFirst t e b ∷ todo
loop_todo NoTest t e b todo = TurnNow NoTest t e b ∷ todo

-- exits

-- the end of an activation: a return hands over the newest operand, all others 0
abbrev pub end_step : Way → State → Step
end_step ToReturn s = end_by s.run.handles (top s.run.operands) s
end_step ToEnd s = end_by s.run.handles nought s
end_step ToBreak s = return_step nought s.callers s
end_step ToContinue s = return_step nought s.callers s

-- a loop is left, or its next turn comes
abbrev pub loop_left : Way → Order → Expr → Option Expr → Stmt → List Todo → List Todo
loop_left ToBreak o t s b todo = todo
loop_left ToContinue o t s b todo = InLoop o t s b ∷ todo
loop_left ToReturn o t s b todo = Exit ToReturn ∷ todo
loop_left ToEnd o t s b todo = Exit ToEnd ∷ todo

-- what is to do once a piece of this sort is left
abbrev pub left_behind : Way → Sort → List Todo → List Todo
left_behind w Simple todo = Exit w ∷ todo
left_behind w (IsLoop o t s b) todo = loop_left w o t s b todo
left_behind w IsWhole todo = todo
-- an object is cleaned up, and then the exit goes on; a part stays as it is, and no statement stands in what goes over elements
left_behind w (IsClean c) todo = Clean c ∷ (Exit w ∷ todo)
left_behind w (IsFill n b d) todo = Exit w ∷ todo
left_behind w (IsSweep e) todo = Exit w ∷ todo
left_behind w (IsPart c) todo = Exit w ∷ todo
left_behind w (IsGuard hs) todo = Exit w ∷ todo
left_behind w IsFinish todo = Finish ∷ todo
left_behind w IsFinishCoroutine todo = FinishCoroutine ∷ todo

-- an exit leaves the pieces one by one
abbrev pub exit_step : Way → List Todo → State → Step
exit_step w [] s = end_step w s
exit_step w (p ∷ ps) s = turns (left_behind w (sort p) ps) s

-- objects

-- elements are counted up to the largest number
abbrev pub MOST_ELEMENTS : ℕ
MOST_ELEMENTS = 2 ^ 32 - 1

-- so many elements stand
abbrev pub with_elements : ℕ → State → State
with_elements n s = record s { run = record s.run { elements = n } }

-- elements are built one after another, while fewer stand; one stands once it is built
abbrev pub fill_todo : Bool → ℕ → Expr → Expr → List Todo → List Todo
fill_todo false n b d todo = todo
fill_todo true n b d todo = Eval b ∷ (DropNow ∷ (MoreNow ∷ (FillNow n b d ∷ todo)))

-- the last one that stands is destroyed, and stands no more as that begins
abbrev pub sweep_step : ℕ → Expr → List Todo → State → Step
sweep_step zero e todo s = turns todo s
sweep_step (suc n) e todo s = turns (Eval e ∷ (DropNow ∷ (Sweep e ∷ todo))) (with_elements n s)

-- what raises and handles events
abbrev pub event_step : EventStmt → List Todo → State → Step
event_step (Throw line r) todo s = turns (raised_todo r (ThrowNow ∷ (Within line ∷ todo))) s
event_step (Raise line r) todo s = turns (raised_todo r (RaiseNow ∷ (Within line ∷ todo))) s
event_step (Try line body hs) todo s = turns (Rest body ∷ (Guard hs ∷ (Within line ∷ todo))) s
event_step (RaiseAt line r a) todo s = turns (raised_todo r (Eval a ∷ (RaiseAtNow ∷ (Within line ∷ todo)))) s
event_step (Enable line events cell a) todo s =
    turns (EnableNow events cell ∷ (PollNow ∷ (Do a ∷ (Clean (Restores cell) ∷ (Within line ∷ todo))))) s
event_step (Disable line events cell a) todo s =
    turns (DisableNow events cell ∷ (Do a ∷ (Clean (Restores cell) ∷ (Within line ∷ todo)))) s

-- what coroutines and tasks do
abbrev pub task_step : TaskStmt → List Todo → State → Step
task_step (Resume line) todo s = turns (ResumeNow ∷ (PollNow ∷ (Within line ∷ todo))) s
task_step (Suspend line) todo s = turns (SuspendNow ∷ (PollNow ∷ (Within line ∷ todo))) s
task_step (SetUp r) todo s = turns (SetUpNow r ∷ todo) s
task_step Enliven todo s = turns (EnlivenNow ∷ todo) s
task_step TakeDown todo s = turns (TakeDownNow ∷ todo) s
task_step (Yield line) todo s = turns (YieldNow ∷ (PollNow ∷ (Within line ∷ todo))) s
task_step (Migrate line a) todo s = turns (Eval a ∷ (MigrateNow ∷ (Within line ∷ todo))) s
task_step (Accept line site cs) todo s = turns (Guards cs ∷ (AcceptNow site (clause_count cs) ∷ (ChooseNow cs ∷ (Within line ∷ todo)))) s

-- to do a statement
abbrev pub stmt_step : Stmt → List Todo → State → Step
stmt_step (Skip line) todo s = turns todo s
stmt_step (Block line body) todo s = turns (Rest body ∷ (Within line ∷ todo)) s
stmt_step (Whole line body) todo s = turns (Rest body ∷ (InWhole ∷ (Within line ∷ todo))) s
stmt_step (Evaluate line a) todo s = turns (Eval a ∷ (DropNow ∷ (Within line ∷ todo))) s
stmt_step (Declare line ds) todo s = turns (Variables ds ∷ (Within line ∷ todo)) s
stmt_step (Print line items) todo s = turns (Items items ∷ (Within line ∷ todo)) s
stmt_step (PrintTogether line items) todo s =
    turns (Values items ∷ (GatherNow ∷ (Pieces items ∷ (FlushNow ∷ (Within line ∷ todo))))) s
stmt_step (Read line ts) todo s = turns (Targets ts ∷ (Within line ∷ todo)) s
stmt_step (If line t a b) todo s = turns (Eval t ∷ (Branch a b ∷ (Within line ∷ todo))) s
stmt_step (Loop line o t e b) todo s = turns (loop_todo o t e b (Within line ∷ todo)) s
stmt_step (Break line) todo s = turns (Exit ToBreak ∷ todo) s
stmt_step (Continue line) todo s = turns (Exit ToContinue ∷ todo) s
stmt_step (Return line None) todo s = turns (Exit ToEnd ∷ todo) s
stmt_step (Return line (Some e)) todo s = turns (Eval e ∷ (Exit ToReturn ∷ (Within line ∷ todo))) s
stmt_step (Owes line) todo s = turns (NoReturnNow ∷ (Within line ∷ todo)) s
stmt_step (Fill line n b d) todo s = turns (CountNow 0 ∷ (FillNow n b d ∷ (Within line ∷ todo))) s
stmt_step (OfEvents a) todo s = event_step a todo s
stmt_step (OfTasks a) todo s = task_step a todo s

-- to do the statements that are left of a block
abbrev pub rest_step : Stmts → List Todo → State → Step
rest_step Nil todo s = turns todo s
rest_step (Then a rest) todo s = turns (Do a ∷ (Rest rest ∷ todo)) s
rest_step (Scoped c rest) todo s = turns (Rest rest ∷ (Clean c ∷ todo)) s
rest_step (Built c rest) todo s = turns (Rest rest ∷ (Part c ∷ todo)) s

-- what is to do behind a routine's statements, and their line: a main ends; where a value is owed, that is a fault. What builds
-- and destroys the fields of an object is in no statement, and the body in one of its own
abbrev pub behind_body : Purpose → ℕ → List Todo
behind_body TaskMain line = Finish ∷ (Within line ∷ [])
behind_body CoroutineMain line = FinishCoroutine ∷ (Within line ∷ [])
behind_body Procedure line = Within line ∷ []
behind_body Function line = NoReturnNow ∷ (Within line ∷ [])
behind_body Builder line = []

-- what is to do as a routine begins
abbrev pub routine_todo : Routine → List Todo
routine_todo r = Rest r.body ∷ behind_body r.purpose r.line

-- the frame of a call: the newest operands are its parameters, and the other cells are 0
abbrev pub call_frame : Routine → List Value → List Value
call_frame r vs = take_operands Nothing r.params vs (replicate (r.cells - r.params) nought)

-- a routine begins with the newest operands as its parameters, for this object, as a call that counts or does not; this is left
-- to do and these operands are left to its caller
abbrev pub begun_step : Routine → Value → Bool → List Todo → List Value → State → Step
begun_step r this counts todo vs s =
    Goes (entered (routine_todo r) this Nothing (call_frame r s.run.operands) counts (record s.run { control = todo; operands = vs }) s.callers s.env)

-- a call; one too many is a fault
abbrev pub call_step : Option Routine → List Todo → State → Step
call_step None todo s = Asks ask.End (at todo s.run.operands s)
call_step (Some r) todo s =
    if nat_lt s.env.links.calls CALLS
    then begun_step r Nothing true todo (drop r.params s.run.operands) s
    else fault Depth todo s.run.operands s

-- the same at the object below the arguments
abbrev pub call_on_step : Option Routine → List Todo → State → Step
call_on_step None todo s = Asks ask.End (at todo s.run.operands s)
call_on_step (Some r) todo s =
    if nat_lt s.env.links.calls CALLS
    then begun_step r (top (drop r.params s.run.operands)) true todo (below (drop r.params s.run.operands)) s
    else fault Depth todo s.run.operands s

-- what nobody wrote is no active call
abbrev pub call_unwritten_step : Option Routine → List Todo → State → Step
call_unwritten_step None todo s = Asks ask.End (at todo s.run.operands s)
call_unwritten_step (Some r) todo s =
    begun_step r (top (drop r.params s.run.operands)) false todo (below (drop r.params s.run.operands)) s

-- coroutines

-- an execution for this object, whose main has not begun
abbrev pub fresh : Routine → Value → exec.Execution (List Todo) Value
fresh r this = record { run = begun (routine_todo r) this 0 Nothing false; callers = []; frames = replicate r.cells nought ∷ []; links = fresh_links }

-- where the coroutine at a place is at home
abbrev pub home_at : Value → Env → Home
home_at (Number n) e = e.exec.home
home_at (Place o p) e = home_in o
home_at (Running n) e = e.exec.home
home_at (Object o) e = home.Object o
home_at Nothing e = e.exec.home

-- the object at hand gets an execution, which its first cell names
abbrev pub set_up_at : Routine → Home → List Todo → State → Step
set_up_at r h todo s = turns todo (in_env (written s.run.this (Running (new_exec h s.env)) (born h (fresh r s.run.this) s.env)) s)

abbrev pub set_up_step : Option Routine → List Todo → State → Step
set_up_step None todo s = turns todo s
set_up_step (Some r) todo s = set_up_at r (home_at s.run.this s.env) todo s

-- a member of the coroutine below the arguments is called
abbrev pub live_step : Option Routine → List Todo → State → Step
live_step None todo s = Asks ask.End (at todo s.run.operands s)
live_step (Some r) todo s =
    if is_live (exec_at (top (drop r.params s.run.operands)) s.env) s.env then turns todo s else fault NotLive todo s.run.operands s

-- the execution of the coroutine whose member runs: a main runs in that of its own, and so does a handler that stands in it
abbrev pub resumed : State → Option Exec
resumed s = if nat_eq (home_of s.run.handles (length s.callers)) 0 then Some s.env.exec else own_exec s

-- an execution that stopped lands: it goes on, or is unwound if there is a reason by now
abbrev pub land_step : Option UnwindReason → List Todo → State → Step
land_step None todo s = turns todo s
land_step (Some why) todo s = unwinds todo s

-- the next step in a source, by what is to do
module _ (source : Source) where
  abbrev pub act : Todo → List Todo → State → Step
  act (Eval a) todo s = eval_step a todo s
  act LoadNow todo s = goes todo (loaded (top s.run.operands) s.env ∷ below s.run.operands) s
  act (ElementNow n k) todo s =
      element_step k (index_in n (number (top s.run.operands))) todo (top (below s.run.operands)) (below (below s.run.operands)) s
  act (FieldNow k i) todo s = goes todo (further (FieldAt k i) (top s.run.operands) ∷ below s.run.operands) s
  act NegateNow todo s = outcome_step (int_outcome (neg_ℤ (number (top s.run.operands)))) todo (below s.run.operands) s
  act NotNow todo s = goes todo (Number (truth (is_zero (number (top s.run.operands)))) ∷ below s.run.operands) s
  act CharacterNow todo s = goes todo (Number (as_character (number (top s.run.operands))) ∷ below s.run.operands) s
  act TruthNow todo s = goes todo (Number (as_truth (number (top s.run.operands))) ∷ below s.run.operands) s
  act (OperateNow op) todo s =
      outcome_step (outcome op (number (top (below s.run.operands))) (number (top s.run.operands))) todo (below (below s.run.operands)) s
  act CopyNow todo s = goes todo (top s.run.operands ∷ s.run.operands) s
  act CopyBelowNow todo s = goes todo (top (below s.run.operands) ∷ s.run.operands) s
  act DropNow todo s = goes todo (below s.run.operands) s
  act DropBelowNow todo s = goes todo (top s.run.operands ∷ below (below s.run.operands)) s
  act StoreNow todo s =
      goes todo (below (below s.run.operands)) (in_env (written (top (below s.run.operands)) (Number (number (top s.run.operands))) s.env) s)
  act KeepNow todo s =
      goes todo (top s.run.operands ∷ below (below s.run.operands)) (in_env (written (top (below s.run.operands)) (Number (number (top s.run.operands))) s.env) s)
  act (SetNow k) todo s = goes todo s.run.operands (in_env (written (variable_at k s) (Number (number (top s.run.operands))) s.env) s)
  act BindNow todo s =
      goes todo (top s.run.operands ∷ below (below s.run.operands)) (in_env (written (top (below s.run.operands)) (top s.run.operands) s.env) s)
  act (Choose a b) todo s = goes (Eval (if is_zero (number (top s.run.operands)) then b else a) ∷ todo) (below s.run.operands) s
  act (Branch a b) todo s = goes (Do (if is_zero (number (top s.run.operands)) then b else a) ∷ todo) (below s.run.operands) s
  act TickNow todo s = Ticks (at todo s.run.operands s)
  act (TurnNow o t e b) todo s = Ticks (at (Do b ∷ (InLoop o t e b ∷ todo)) s.run.operands s)
  act (Arguments NoExprs) todo s = turns todo s
  act (Arguments (MoreExprs e es)) todo s = turns (Eval e ∷ (Arguments es ∷ todo)) s
  act (CallNow r) todo s = call_step (slice_get source.routines r) todo s
  act (CallOnNow r) todo s = call_on_step (slice_get source.routines r) todo s
  act (CallUnwrittenNow r) todo s = call_unwritten_step (slice_get source.routines r) todo s
  act (CountNow n) todo s = turns todo (with_elements n s)
  act MoreNow todo s = turns todo (with_elements (min (s.run.elements + 1) MOST_ELEMENTS) s)
  act (FillNow n b d) todo s = turns (fill_todo (nat_lt s.run.elements n) n b d todo) s
  act (Again o t e b) todo s =
      goes (if is_zero (number (top s.run.operands)) then todo else TurnNow o t e b ∷ todo) (below s.run.operands) s
  act (PrintNow form) todo s = print_step s.env.gathered (piece (form_number form) (number (top s.run.operands))) todo (below s.run.operands) s
  act (TextNow k) todo s = print_step s.env.gathered (piece TEXT_FORM (pos k)) todo s.run.operands s
  act GatherNow todo s = turns todo (in_env (record s.env { gathered = Some [] }) s)
  act FlushNow todo s = flush_step s.env.gathered todo s.run.operands s
  act (ReadNow form) todo s = Asks (ask.Read (form_number form)) (at todo s.run.operands s)
  act (ClearNow k n) todo s = turns todo (in_env (cleared k n s) s)
  act (Items []) todo s = turns todo s
  act (Items (i ∷ is)) todo s = turns (item_todo i (Items is ∷ todo)) s
  -- all values, the first one first, and then the items, the last one first
  act (Values []) todo s = turns todo s
  act (Values (i ∷ is)) todo s = turns (item_value i (Values is ∷ todo)) s
  act (Pieces []) todo s = turns todo s
  act (Pieces (i ∷ is)) todo s = turns (Pieces is ∷ (item_piece i ∷ todo)) s
  act (Targets []) todo s = turns todo s
  act (Targets (t ∷ ts)) todo s = turns (Eval t.place ∷ (ReadNow t.form ∷ (StoreNow ∷ (Targets ts ∷ todo)))) s
  act (Variables []) todo s = turns todo s
  act (Variables (d ∷ ds)) todo s = turns (ClearNow d.cell d.cells ∷ starting d.cell d.value (Variables ds ∷ todo)) s
  act (Do a) todo s = stmt_step a todo s
  act (Rest ss) todo s = rest_step ss todo s
  act (Within line) todo s = turns todo s
  act (Exit w) todo s = exit_step w todo s
  act NoReturnNow todo s = fault NoReturn todo s.run.operands s
  act (InLoop o t e b) todo s = turns (step_todo e (test_todo o t e b todo)) s
  act InWhole todo s = turns todo s
  act (Clean c) todo s = turns (clean_todo c todo) s
  act (Sweep e) todo s = sweep_step s.run.elements e todo s
  act (Part c) todo s = turns todo s
  act (Guard hs) todo s = turns todo s
  act Unwind todo s = unwind_step todo s
  act ThrowNow todo s = throw_step (event_in s.run.operands) todo s
  act RaiseNow todo s = raise_step (event_in s.run.operands) todo s
  act (SetUpNow r) todo s = set_up_step (slice_get source.routines r) todo s
  act EnlivenNow todo s = turns todo (in_env (enlivened (own_exec s) s.env) s)
  act TakeDownNow todo s = moves (take_down (own_exec s) (at todo s.run.operands s)) (at todo s.run.operands s)
  act ForgetNow todo s = turns todo (in_env (forgotten (own_exec s) s.env) s)
  act (LiveNow r) todo s = live_step (slice_get source.routines r) todo s
  act ResumeNow todo s = moves (wake (resumed s) (at (Land ∷ todo) s.run.operands s)) (at (Land ∷ todo) s.run.operands s)
  act SuspendNow todo s = moves (suspend (at (Land ∷ todo) s.run.operands s)) (at (Land ∷ todo) s.run.operands s)
  act Land todo s = land_step s.run.raised todo s
  act (EnterNow m r) todo s = enter_step m (slice_get source.routines r) todo s
  act LeaveNow todo s = leave_on (this_object s) todo s
  act (MakeNow c r) todo s = make_step c r (slice_get source.routines r) todo s
  act (BindMadeNow c r) todo s = bind_step (slice_get source.routines r) todo s
  act MadeNow todo s = built_step (this_object s) (ask.Made (this_object s)) todo s
  act (SpawnNow r) todo s = built_step (this_object s) (ask.Spawn (this_object s)) (ChildNow r ∷ todo) s
  act (ChildNow r) todo s = turns todo s
  act GoneNow todo s = gone_step (this_object s) todo (call_gone (this_object s) s.env) s
  act GiveUpNow todo s = gone_step (this_object s) todo (build_ended (this_object s) s.env) s
  act ClusterNow todo s = asks ask.Cluster todo s.run.operands s
  act ProcessorNow todo s = asks (ask.Processor (object_in (top s.run.operands))) todo (below s.run.operands) s
  act ClusterEndNow todo s = asks (ask.ClusterEnd (object_in (top s.run.operands))) todo (nought ∷ below s.run.operands) s
  act ProcessorEndNow todo s = asks (ask.ProcessorEnd (object_in (top s.run.operands))) todo (nought ∷ below s.run.operands) s
  act (ConditionNow k n) todo s = condition_step k (index_in n (number (top s.run.operands))) todo s
  act WaitNow todo s = wait_step (this_object s) todo s
  act SignalNow todo s = asks (ask.Signal (this_object s) (condition_in (top s.run.operands))) todo (nought ∷ below s.run.operands) s
  act SignalBlockNow todo s = signal_block_step (this_object s) todo s
  act EmptyNow todo s = asks (ask.Empty (this_object s) (condition_in (top s.run.operands))) todo (below s.run.operands) s
  act FrontNow todo s = asks (ask.Front (this_object s) (condition_in (top s.run.operands))) todo (below s.run.operands) s
  act YieldNow todo s = asks ask.Yield todo s.run.operands s
  act MigrateNow todo s = asks (ask.Migrate (object_in (top s.run.operands))) todo (below s.run.operands) s
  act (Guards NoClauses) todo s = turns todo s
  act (Guards (Otherwise b)) todo s = turns todo s
  act (Guards (MoreClauses guard b cs)) todo s = turns (Eval guard ∷ (Guards cs ∷ todo)) s
  act (AcceptNow site n) todo s = accept_step (this_object s) site n todo s
  act FailedNow todo s = failed_step (is_zero (number (top s.run.operands))) todo (below s.run.operands) s
  act (ChooseNow cs) todo s = goes (branch_todo (as_number (number (top s.run.operands))) cs todo) (below s.run.operands) s
  act RaiseAtNow todo s = raise_at_step (top s.run.operands) (event_in (below s.run.operands)) todo (drop 4 s.run.operands) s
  act (EnableNow events cell) todo s = enable_step (enabled_more s.env.links.enabled events) cell todo s
  act (DisableNow events cell) todo s = enable_step (enabled_less s.env.links.enabled events) cell todo s
  act (RestoreNow cell) todo s = turns todo (in_env (with_enabled (events_in (number (loaded (variable_at cell s) s.env))) s.env) s)
  act PollNow todo s = poll_step todo s
  act DeliverNow todo s = deliver_step (top (drop 2 s.run.operands)) todo s
  act Finish todo s = unless_held_up s.env.own (return_step nought s.callers s) todo s
  act FinishCoroutine todo s = moves (finish (at todo s.run.operands s)) (at todo s.run.operands s)

  abbrev pub act_todo : List Todo → State → Step
  act_todo [] s = return_step nought s.callers s
  act_todo (t ∷ todo) s = act t todo s

  -- the step of a state; each state has one
  abbrev pub quiet : State → Step
  quiet s = act_todo s.run.control s

  -- some quiet steps lead from one state to another
  pub data Quietly : State → State → Type 0 where
    stay : {s : State} → Quietly s s
    more : {s t u : State} → quiet s ≡ Goes t → Quietly t u → Quietly s u

-- so many cells that are 0, where no execution is at home; no cells
abbrev pub zeros : ℕ → Members
zeros n = record { values = replicate n nought; serial = 0; parked = [] }

abbrev pub no_members : Members
no_members = zeros 0

-- the own execution of the task whose object is o, as its main begins, inside its object
abbrev pub first_state : Routine → ℕ → State
first_state r o = record {
  run = begun (routine_todo r) (Object o) 0 Nothing false;
  callers = [];
  env = record {
    frames = replicate r.cells nought ∷ [];
    links = no_links;
    exec = record { home = home.Task o; serial = 0 };
    own = o;
    house = record { values = []; serial = 1; parked = (0, None) ∷ [] };
    depths = (o, 1) ∷ [];
    hand = [];
    gathered = None;
  };
}
