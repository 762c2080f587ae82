-- The code of the resolved tree: for each piece what its range of ops must hold. `line` is that of the innermost
-- statement around the piece, and the marks are what stands around it in its routine, the innermost first.
use Rattle.std.specs.Prelude.{◌≡◌, ℕ, suc, ◌+◌, ◌<◌, max, slice_get, pos, List, [], ◌∷◌, Bool, true, false, Option, Some, None, length, map}
use Rattle.uc_tree.specs.Source.{Shape, Integer, Character, Truth, Binding, Last, Field, Array, shape_cells, field_cells, Operator, Add, Sub, Mul, Div, Rem, Equal, NotEqual, Less, LessEqual, Greater, GreaterEqual, Expr, Literal, Variable, Element, Get, Load, Negated, Not, AsCharacter, AsTruth, Operate, And, Or, Set, Assign, First, Update, StepBehind, Fail, Call, OfObject, ObjectExpr, This, OwnField, GetOwn, FieldOf, Counted, CallOn, CallUnwritten, CallLive, EnterOn, EndOn, Bind, MakeOn, NewCluster, NewProcessor, EndCluster, EndProcessor, ConditionAt, Wait, Signal, SignalBlock, IsEmpty, FrontOf, Exprs, NoExprs, MoreExprs, Item, Show, ShowText, Target, Declared, Stmt, Skip, Block, Whole, Evaluate, Declare, Print, PrintTogether, Read, If, Loop, Break, Continue, Return, Owes, Fill, OfEvents, OfTasks, TaskStmt, Resume, Suspend, SetUp, Enliven, TakeDown, Yield, Migrate, Accept, EventStmt, Throw, Raise, Try, RaiseAt, Enable, Disable, Raised, Plainly, BuiltAt as BuildsAt, AgainFrom, Handlers, NoHandlers, MoreHandlers, Clauses, NoClauses, Otherwise, MoreClauses, clause_count, CleanUp, Restores, Stmts, Nil, Then, Scoped, Built, Way, ToBreak, ToContinue, ToReturn, ToEnd, Purpose, TaskMain, CoroutineMain, Procedure, Function, Builder, Routine, Source}
use Rattle.uc_code.specs.declared.op.Op.{Op}
use Rattle.uc_code.specs.declared.op.Op.TheVariants as op
use Rattle.uc_code.specs.declared.rows.CodeMark.{CodeMark}
use Rattle.uc_code.specs.declared.rows.CodeMark.TheVariants as mark
use Rattle.uc_code.specs.declared.rows.ObjectSpot.{ObjectSpot}
use Rattle.uc_code.specs.declared.rows.ObjectSpot.TheVariants as spot
use Rattle.uc_code.specs.declared.rows.Array.{Array as ArrayOf}
use Rattle.uc_code.specs.declared.rows.Resource.{Resource}
use Rattle.uc_code.specs.declared.rows.Resource.TheVariants as resource
use Rattle.uc_code.specs.declared.rows.Manner.{Manner}
use Rattle.uc_code.specs.declared.rows.Manner.TheVariants as manner
use Rattle.uc_code.specs.declared.rows.ObjectCall.{ObjectCall}
use Rattle.uc_code.specs.declared.rows.Cleaning.{Cleaning}
use Rattle.uc_code.specs.declared.rows.Cleaning.TheVariants as cleaning
use Rattle.uc_code.specs.declared.rows.MainOf.TheVariants as main_of
use Rattle.uc_code.specs.declared.rows.RoutineCode.{RoutineCode}
use Rattle.uc_code.specs.Codes.{Code}
use Rattle.uc_tree.specs.declared.limits.TheConstants.{DESTRUCTOR}
use Rattle.uc_tree.specs.Hidden.{EVENT_FIELDS}
use Rattle.uc_code.specs.declared.rows.Handler.{Handler}
use Rattle.uc_code.specs.declared.rows.RowKind.{RowKind}
use Rattle.uc_code.specs.declared.rows.RowKind.TheVariants as kind
use Rattle.uc_code.specs.declared.rows.TheConstants.{ANY_EVENT}
use Rattle.uc_code.specs.Layout.{Laid, laid_of, handlers}
use Rattle.uc_code.specs.CodeShapes.{OpAt, Nothing, Never, One, Risk, CallsBehind, Both, Fork, Turns, WholeAt, main_end, MainAt, Guarded, HandledAt, ApartAt, OverElements, ScopeOf, BehindPart, PollAt, LeavesAt, AcceptsAt, ChoosesAt, NoBranch, ElseAt, ClauseAt}
use Rattle.uc_code.specs.ObjectCalls.{Calls, Cleans}
use Rattle.uc_code.specs.Silent.{silent_all}

-- the op of an operator
abbrev pub operator_op : Operator → Op
operator_op Add = op.Add
operator_op Sub = op.Subtract
operator_op Mul = op.Multiply
operator_op Div = op.Divide
operator_op Rem = op.Remainder
operator_op Equal = op.Equal
operator_op NotEqual = op.NotEqual
operator_op Less = op.Less
operator_op LessEqual = op.LessEqual
operator_op Greater = op.Greater
operator_op GreaterEqual = op.GreaterEqual

-- the op that prints an item, whose value is the top operand
abbrev pub item_op : Item → Op
item_op (Show form e) = op.Print form
item_op (ShowText k) = op.Text k

-- the kind of a handler, and its event, which is a number that a row has for no other end

abbrev pub kind_of : Bool → RowKind
kind_of true = kind.CatchResume
kind_of false = kind.Catch

abbrev pub event_of : Option ℕ → ℕ
event_of None = ANY_EVENT
event_of (Some n) = n

pub record IsNamed (event : Option ℕ) : Type 0 where
  pub few : (n : ℕ) → event ≡ Some n → n < ANY_EVENT

abbrev pub handler_of : Bool → Option ℕ → ℕ → ℕ → Handler
handler_of resumes event rest entry = record { kind = kind_of resumes; event = event_of event; rest = rest; entry = entry }

-- how many rows a guarded block has: one for each handler
abbrev pub handler_rows : Handlers → ℕ
handler_rows NoHandlers = 0
handler_rows (MoreHandlers resumes event cell line body rest) = suc (handler_rows rest)

-- where an object begins
abbrev pub spot_op : ObjectSpot → Op
spot_op (spot.Local k) = op.Local k
spot_op (spot.This k) = op.This k

-- the end of a cluster and of a processor
abbrev pub close_op : Resource → Op
close_op resource.Cluster = op.ClusterEnd
close_op resource.Processor = op.ProcessorEnd

module _ (code : Laid) (line : ℕ) where
  -- a range of one op, of this line
  abbrev pub Is : Op → ℕ → ℕ → Type 0
  Is o = One code o line

  -- the top operand as it is kept in a scalar of this shape
  abbrev pub ConvertAt : Shape → ℕ → ℕ → Type 0
  ConvertAt Integer = Nothing
  ConvertAt Character = Is op.ToChar
  ConvertAt Truth = Is op.ToBool
  ConvertAt Binding = Nothing
  ConvertAt Last = Nothing
  ConvertAt (Field s t) = Nothing
  ConvertAt (Array n s) = Nothing

  abbrev mutual
    pub ExprAt : List CodeMark → Expr → ℕ → ℕ → Type 0
    ExprAt ms (Literal n) = Is (op.Push n)
    ExprAt ms (Variable k) = Is (op.Local k)
    ExprAt ms (Element n s a i) = Both (ExprAt ms a) (Both (ExprAt ms i) (Is (op.Index n (shape_cells s))))
    ExprAt ms (Get k) = Is (op.Via k)
    ExprAt ms (Load a) = Both (ExprAt ms a) (Is op.Load)
    ExprAt ms (Negated a) = Both (ExprAt ms a) (Is op.Negate)
    ExprAt ms (Not a) = Both (ExprAt ms a) (Is op.Not)
    ExprAt ms (AsCharacter a) = Both (ExprAt ms a) (Is op.ToChar)
    ExprAt ms (AsTruth a) = Both (ExprAt ms a) (Is op.ToBool)
    ExprAt ms (Operate o a b) = Both (ExprAt ms a) (Both (ExprAt ms b) (Is (operator_op o)))
    -- 0 where the left side is 0, and the right side is left out
    ExprAt ms (And a b) = Both (ExprAt ms a) (Fork code line (Both (ExprAt ms b) (Is op.ToBool)) (Is (op.Push (pos 0))))
    ExprAt ms (Or a b) = Both (ExprAt ms a) (Fork code line (Is (op.Push (pos 1))) (Both (ExprAt ms b) (Is op.ToBool)))
    ExprAt ms (Set k a) = Both (ExprAt ms a) (Is (op.Set k))
    ExprAt ms (Assign p a) = Both (ExprAt ms p) (Both (ExprAt ms a) (Is op.Keep))
    ExprAt ms (First a b) = Both (ExprAt ms a) (Both (ExprAt ms b) (Is op.Discard))
    ExprAt ms (Update o s p a) =
        Both (ExprAt ms p) (Both (Is op.Duplicate) (Both (Is op.Load) (Both (ExprAt ms a) (Both (Is (operator_op o)) (Both (ConvertAt s) (Is op.Keep))))))
    -- the old value stays below until the new one is written
    ExprAt ms (StepBehind o s p) =
        Both (ExprAt ms p) (Both (Is op.Duplicate) (Both (Is op.Load) (Both (Is op.CopyBelow) (Both (Is op.CopyBelow) (Both (Is (op.Push (pos 1))) (Both (Is (operator_op o)) (Both (ConvertAt s) (Both (Is op.Store) (Is op.DiscardBelow)))))))))
    ExprAt ms Fail = Is op.Fail
    ExprAt ms (Call r es) = Both (ArgumentsAt ms es) (Both (Is op.Tick) (Risk code ms (op.Call r) line))
    ExprAt ms (OfObject o) = ObjectAt ms o

    pub ObjectAt : List CodeMark → ObjectExpr → ℕ → ℕ → Type 0
    ObjectAt ms This = Is op.Own
    ObjectAt ms (OwnField s i) = Is (op.This (field_cells s i))
    ObjectAt ms (GetOwn s i) = Is (op.ViaThis (field_cells s i))
    ObjectAt ms (FieldOf s i e) = Both (ExprAt ms e) (Is (op.Field (field_cells s i)))
    ObjectAt ms Counted = Is op.Counted
    ObjectAt ms (CallOn r e es) = Both (ExprAt ms e) (Both (ArgumentsAt ms es) (Both (Is op.Tick) (Risk code ms (op.CallOn r) line)))
    -- a coroutine must be live
    ObjectAt ms (CallLive r e es) = Both (ExprAt ms e) (Both (ArgumentsAt ms es) (Both (Is op.Tick) (Both (Is (op.Alive r)) (Risk code ms (op.CallOn r) line))))
    ObjectAt ms (CallUnwritten r e) = Both (ExprAt ms e) (CallsBehind code ms r line)
    ObjectAt ms (Bind p e) = Both (ExprAt ms p) (Both (ExprAt ms e) (Is op.Bind))
    -- a mutex object is entered before the call, and made before it
    ObjectAt ms (EnterOn m r e es) =
        Both (ExprAt ms e) (Both (ArgumentsAt ms es) (Both (Is op.Tick) (Both (Is (op.Enter m r)) (Risk code ms (op.CallOn r) line))))
    ObjectAt ms (EndOn r false e) = Both (ExprAt ms e) (Both (Is (op.Enter DESTRUCTOR r)) (CallsBehind code ms r line))
    ObjectAt ms (EndOn r true e) = Both (ExprAt ms e) (Both (Is op.Tick) (Both (Is (op.Enter DESTRUCTOR r)) (Risk code ms (op.CallOn r) line)))
    ObjectAt ms (MakeOn c r false e es) =
        Both (ExprAt ms e) (Both (ArgumentsAt ms es) (Both (Is (op.Make c r)) (Both (Is (op.BindMade c r)) (CallsBehind code ms r line))))
    ObjectAt ms (MakeOn c r true e es) =
        Both (ExprAt ms e) (Both (ArgumentsAt ms es) (Both (Is op.Tick) (Both (Is (op.Make c r)) (Both (Is (op.BindMade c r)) (Risk code ms (op.CallOn r) line)))))
    ObjectAt ms NewCluster = Is op.Cluster
    ObjectAt ms (NewProcessor e) = Both (ExprAt ms e) (Is op.Processor)
    ObjectAt ms (EndCluster e) = Both (ExprAt ms e) (Is op.ClusterEnd)
    ObjectAt ms (EndProcessor e) = Both (ExprAt ms e) (Is op.ProcessorEnd)
    ObjectAt ms (ConditionAt k n e) = Both (ExprAt ms e) (Is (op.Condition k n))
    -- one that has waited is delivered events
    ObjectAt ms (Wait c n) = Both (ExprAt ms c) (Both (ExprAt ms n) (Both (Is op.Wait) (PollAt code ms line)))
    ObjectAt ms (Signal c) = Both (ExprAt ms c) (Is op.Signal)
    ObjectAt ms (SignalBlock c) = Both (ExprAt ms c) (Is op.SignalBlock)
    ObjectAt ms (IsEmpty c) = Both (ExprAt ms c) (Is op.Empty)
    ObjectAt ms (FrontOf c) = Both (ExprAt ms c) (Is op.Front)

    -- arguments, from left to right
    pub ArgumentsAt : List CodeMark → Exprs → ℕ → ℕ → Type 0
    ArgumentsAt ms NoExprs = Nothing
    ArgumentsAt ms (MoreExprs e es) = Both (ExprAt ms e) (ArgumentsAt ms es)

  -- the value of an item; a text has none
  abbrev pub ValueAt : List CodeMark → Item → ℕ → ℕ → Type 0
  ValueAt ms (Show form e) = ExprAt ms e
  ValueAt ms (ShowText k) = Nothing

  abbrev pub ItemsAt : List CodeMark → List Item → ℕ → ℕ → Type 0
  ItemsAt ms [] = Nothing
  ItemsAt ms (i ∷ is) = Both (ValueAt ms i) (Both (Is (item_op i)) (ItemsAt ms is))

  abbrev pub ValuesAt : List CodeMark → List Item → ℕ → ℕ → Type 0
  ValuesAt ms [] = Nothing
  ValuesAt ms (i ∷ is) = Both (ValueAt ms i) (ValuesAt ms is)

  -- the last item comes first
  abbrev pub PiecesAt : List Item → ℕ → ℕ → Type 0
  PiecesAt [] = Nothing
  PiecesAt (i ∷ is) = Both (PiecesAt is) (Is (item_op i))

  abbrev pub TogetherAt : List CodeMark → List Item → ℕ → ℕ → Type 0
  TogetherAt ms is = Both (ValuesAt ms is) (Both (Is op.Hold) (Both (PiecesAt is) (Is op.Flush)))

  abbrev pub TargetsAt : List CodeMark → List Target → ℕ → ℕ → Type 0
  TargetsAt ms [] = Nothing
  TargetsAt ms (t ∷ ts) = Both (ExprAt ms t.place) (Both (Is (op.Read t.form)) (Both (Is op.Store) (TargetsAt ms ts)))

  abbrev pub StartAt : List CodeMark → ℕ → Option Expr → ℕ → ℕ → Type 0
  StartAt ms cell None = Nothing
  StartAt ms cell (Some e) = Both (Is (op.Local cell)) (Both (ExprAt ms e) (Is op.Store))

  abbrev pub VariablesAt : List CodeMark → List Declared → ℕ → ℕ → Type 0
  VariablesAt ms [] = Nothing
  VariablesAt ms (d ∷ ds) = Both (Is (op.Clear d.cell d.cells)) (Both (StartAt ms d.cell d.value) (VariablesAt ms ds))

  -- the step of a loop, if there is one
  abbrev pub StepAt : List CodeMark → Option Expr → ℕ → ℕ → Type 0
  StepAt ms None = Nothing
  StepAt ms (Some e) = Both (ExprAt ms e) (Is op.Discard)

  -- events

  -- an event of this number is found whose fields its constructor has built from this cell on
  abbrev pub FieldsAt : ℕ → ℕ → ℕ → ℕ → Type 0
  FieldsAt n k = Both (Is op.Discard) (Both (Is (op.Push (pos n))) (Both (Is (op.Via k)) (Is (op.Via (k + 1)))))

  -- an event as the newest operands: its number and its fields
  abbrev pub RaisedAt : List CodeMark → Raised → ℕ → ℕ → Type 0
  RaisedAt ms (Plainly n) = Both (Is (op.Push (pos n))) (Both (Is (op.Push (pos 0))) (Is (op.Push (pos 0))))
  RaisedAt ms (BuildsAt n k e) =
      Both (Is (op.Clear k EVENT_FIELDS)) (Both (ExprAt ms e) (FieldsAt n k))
  RaisedAt ms (AgainFrom k) = Both (Is (op.Via k)) (Both (Is (op.Via (k + 1))) (Is (op.Via (k + 2))))

  -- the newest operand is kept in a cell, and goes
  abbrev pub KeepAt : ℕ → ℕ → ℕ → Type 0
  KeepAt k = Both (Is (op.Set k)) (Is op.Discard)

  -- a handler keeps the event that it finds as the newest operands
  abbrev pub KeepsAt : ℕ → ℕ → ℕ → Type 0
  KeepsAt k =
      Both (KeepAt (k + 2)) (Both (KeepAt (k + 1)) (KeepAt k))

  -- calls of constructors and destructors without arguments

  -- where the object lies, or the element that is counted
  abbrev pub SpotAt : ObjectSpot → Option ArrayOf → ℕ → ℕ → Type 0
  SpotAt s None = Is (spot_op s)
  SpotAt s (Some a) = Both (Is (spot_op s)) (Both (Is op.Counted) (Is (op.Index a.length a.size)))

  -- of what is destroyed by its number, as a mutex object is, that stands there
  abbrev pub FoundAt : Manner → ObjectSpot → Option ArrayOf → ℕ → ℕ → Type 0
  FoundAt manner.Plain s o = SpotAt s o
  FoundAt (manner.Makes c) s o = SpotAt s o
  FoundAt manner.Ends s o = Both (SpotAt s o) (Is op.Load)
  FoundAt (manner.Opens r) s o = SpotAt s o
  FoundAt (manner.Closes r) s o = Both (SpotAt s o) (Is op.Load)

  -- a cluster, and a processor of the first cluster, are asked for, and the place below is bound to them
  abbrev pub OpenedAt : Resource → ℕ → ℕ → Type 0
  OpenedAt resource.Cluster = Both (Is op.Cluster) (Is op.Bind)
  OpenedAt resource.Processor = Both (Both (Is (op.Push (pos 0))) (Is op.Processor)) (Is op.Bind)

  -- a written routine is called behind a tick, without arguments; a mutex object is made or entered before
  abbrev pub CalledAt : List CodeMark → Manner → Bool → ℕ → ℕ → ℕ → Type 0
  CalledAt ms manner.Plain true r = Both Nothing (Both (Is op.Tick) (Risk code ms (op.CallOn r) line))
  CalledAt ms manner.Plain false r = CallsBehind code ms r line
  CalledAt ms (manner.Makes c) true r = Both Nothing (Both (Is op.Tick) (Both (Is (op.Make c r)) (Both (Is (op.BindMade c r)) (Risk code ms (op.CallOn r) line))))
  CalledAt ms (manner.Makes c) false r = Both Nothing (Both (Is (op.Make c r)) (Both (Is (op.BindMade c r)) (CallsBehind code ms r line)))
  CalledAt ms manner.Ends true r = Both (Is op.Tick) (Both (Is (op.Enter DESTRUCTOR r)) (Risk code ms (op.CallOn r) line))
  CalledAt ms manner.Ends false r = Both (Is (op.Enter DESTRUCTOR r)) (CallsBehind code ms r line)
  CalledAt ms (manner.Opens of) written r = OpenedAt of
  CalledAt ms (manner.Closes of) written r = Is (close_op of)

  abbrev pub CallAt : ObjectCall → List CodeMark → ℕ → ℕ → Type 0
  CallAt what ms = Both (FoundAt what.manner what.spot what.array) (CalledAt ms what.manner what.written what.routine)

  -- such a call, whose value goes; and before one more element stands
  abbrev pub CallDone : ObjectCall → List CodeMark → ℕ → ℕ → Type 0
  CallDone what ms = Both (CallAt what ms) (Is op.Discard)

  abbrev pub CallBuilt : ObjectCall → List CodeMark → ℕ → ℕ → Type 0
  CallBuilt what ms = Both (CallAt what ms) (Both (Is op.Discard) (Is op.More))

  -- an object is cleaned up; all elements of an array are, the last one first
  abbrev pub CleanBy : Option ArrayOf → ObjectCall → List CodeMark → ℕ → ℕ → Type 0
  CleanBy None what ms = CallDone what ms
  CleanBy (Some a) what ms = OverElements code line ms a.length a.length op.Sweep op.Sweep (CallDone what) (CallDone what)

  -- a coroutine is unwound, its execution is no more
  abbrev pub CleanAt : Cleaning → List CodeMark → ℕ → ℕ → Type 0
  CleanAt (cleaning.Call what) ms = CleanBy what.array what ms
  CleanAt cleaning.TakeDown ms = Is op.UnwindCoroutine
  CleanAt cleaning.Forget ms = Is op.Forget
  -- the running call leaves its mutex object, its destruction ends, its building ends
  CleanAt cleaning.Leave ms = LeavesAt code ms line
  CleanAt cleaning.End ms = Is op.Gone
  CleanAt (cleaning.Free None) ms = Is op.Made
  CleanAt (cleaning.Free (Some r)) ms = Is (op.Spawn r)
  -- events are enabled again
  CleanAt (cleaning.Restore cell) ms = Is (op.Restore cell)

  -- the elements of an array are built, the first one first
  pub record FilledAt (ms : List CodeMark) (n : ℕ) (b d : Expr) (a z : ℕ) : Type 0 where
    pub builder : ObjectCall
    pub destroyer : ObjectCall
    pub builds : Calls b builder
    pub destroys : Calls d destroyer
    pub filled : OverElements code line ms 0 n (op.Fill n) op.Sweep (CallBuilt builder) (CallDone destroyer) a z

module _ (code : Laid) where
  -- an op of any line
  pub record Any (o : Op) (a z : ℕ) : Type 0 where
    pub line : ℕ
    pub one : One code o line a z

  -- what leaves the statements of a routine: the objects in whose scope it stands are cleaned up, the innermost first, each in the
  -- line of its block; then comes a jump to a pad of the innermost loop or of a block that is left as a whole, or a return. A main ends in the line of its block, a call
  -- in that of its caller.
  abbrev pub ExitAt : Way → List CodeMark → ℕ → ℕ → Type 0
  ExitAt ToBreak [] = One code op.Return 0
  ExitAt ToContinue [] = One code op.Return 0
  ExitAt ToReturn [] = One code op.ReturnValue 0
  ExitAt ToEnd [] = One code op.ReturnNone 0
  ExitAt ToBreak (mark.Body routine ∷ ms) = One code op.Return 0
  ExitAt ToContinue (mark.Body routine ∷ ms) = One code op.Return 0
  ExitAt ToReturn (mark.Body routine ∷ ms) = One code op.ReturnValue 0
  ExitAt ToEnd (mark.Body routine ∷ ms) = One code op.ReturnNone 0
  ExitAt w (mark.Finish main routine line row ∷ ms) = One code (main_end main) line
  ExitAt ToBreak (mark.Loop leave again ∷ ms) = Any (op.Jump leave)
  ExitAt ToContinue (mark.Loop leave again ∷ ms) = Any (op.Jump again)
  ExitAt ToReturn (mark.Loop leave again ∷ ms) = ExitAt ToReturn ms
  ExitAt ToEnd (mark.Loop leave again ∷ ms) = ExitAt ToEnd ms
  ExitAt w (mark.Whole leave row ∷ ms) = Any (op.Jump leave)
  ExitAt w (mark.Guard row ∷ ms) = ExitAt w ms
  ExitAt w (mark.Clean what line row ∷ ms) = Both (CleanAt code line what ms) (ExitAt w ms)
  ExitAt w (mark.Part row ∷ ms) = ExitAt w ms
  ExitAt w (mark.Elements row ∷ ms) = ExitAt w ms
  -- nothing stands around a handler of resumptions
  ExitAt ToBreak (mark.Outward below row ∷ ms) = One code op.Return 0
  ExitAt ToContinue (mark.Outward below row ∷ ms) = One code op.Return 0
  ExitAt ToReturn (mark.Outward below row ∷ ms) = One code op.ReturnValue 0
  ExitAt ToEnd (mark.Outward below row ∷ ms) = One code op.ReturnNone 0

  -- the pad of a mutex call: a return of a handler that arrives there is over, and then the call returns what that hands over; else it
  -- leaves its object, and unwinding goes on
  pub record ArrivesAt (line : ℕ) (ms : List CodeMark) (a z : ℕ) : Type 0 where
    pub arrived : ℕ
    pub arrives : OpAt code a (op.Arrive arrived) line
    pub unwinds : Both (LeavesAt code ms line) (Risk code ms op.Unwind line) (a + 1) arrived
    pub returns : Both (LeavesAt code ms line) (ExitAt ToReturn ms) arrived z

  -- the pad of a scope that is unwound: its clean-up, and unwinding goes on; the building of a mutex object is given up
  abbrev pub PadAt : ℕ → Cleaning → List CodeMark → ℕ → ℕ → Type 0
  PadAt line (cleaning.Call what) ms = Both (CleanAt code line (cleaning.Call what) ms) (Risk code ms op.Unwind line)
  PadAt line cleaning.TakeDown ms = Both (CleanAt code line cleaning.TakeDown ms) (Risk code ms op.Unwind line)
  PadAt line cleaning.Forget ms = Both (CleanAt code line cleaning.Forget ms) (Risk code ms op.Unwind line)
  PadAt line cleaning.Leave ms = ArrivesAt line ms
  PadAt line cleaning.End ms = Both (CleanAt code line cleaning.End ms) (Risk code ms op.Unwind line)
  PadAt line (cleaning.Free main) ms = Both (One code op.GiveUp line) (Risk code ms op.Unwind line)
  PadAt line (cleaning.Restore cell) ms = Both (CleanAt code line (cleaning.Restore cell) ms) (Risk code ms op.Unwind line)

  -- what follows in the scope of an object
  pub record ScopedAt (line : ℕ) (ms : List CodeMark) (c : CleanUp) (B : List CodeMark → ℕ → ℕ → Type 0) (a z : ℕ) : Type 0 where
    pub what : Cleaning
    pub cleans : Cleans c what
    pub scope : ScopeOf code line ms (λ row. mark.Clean what line row) (CleanAt code line what ms) (PadAt line what ms) B a z

  -- what follows a part of an object under construction
  pub record BuiltAt (line : ℕ) (ms : List CodeMark) (c : CleanUp) (B : List CodeMark → ℕ → ℕ → Type 0) (a z : ℕ) : Type 0 where
    pub what : Cleaning
    pub cleans : Cleans c what
    pub part : BehindPart code line ms (λ row. mark.Part row) (CleanAt code line what ms) B a z

  -- a handler that catches goes on behind its guarded block, by its pad; one of resumptions ends, and what raised the event goes on
  abbrev pub HandlerBy : Bool → List CodeMark → ℕ → ℕ → (List CodeMark → ℕ → ℕ → Type 0) → ℕ → ℕ → Type 0
  HandlerBy false ms pad line B = Both (B ms) (One code (op.Jump pad) line)
  HandlerBy true ms pad line B = ApartAt code ms B

  -- the event of a handler has a number that stands for it alone
  pub record NamedAt (event : Option ℕ) (B : ℕ → ℕ → Type 0) (a z : ℕ) : Type 0 where
    pub named : IsNamed event
    pub handler : B a z

  -- the guards of an accept statement, from left to right
  abbrev pub GuardsAt : List CodeMark → ℕ → Clauses → ℕ → ℕ → Type 0
  GuardsAt ms line NoClauses = Nothing
  GuardsAt ms line (Otherwise b) = Nothing
  GuardsAt ms line (MoreClauses guard b cs) = Both (ExprAt code line ms guard) (GuardsAt ms line cs)

  -- a statement sets its own line
  abbrev mutual
    pub StmtAt : List CodeMark → Stmt → ℕ → ℕ → Type 0
    StmtAt ms (Skip line) = Nothing
    StmtAt ms (Block line body) = StmtsAt ms line body
    StmtAt ms (Whole line body) = WholeAt code line ms (λ ns. StmtsAt ns line body)
    StmtAt ms (Evaluate line e) = Both (ExprAt code line ms e) (One code op.Discard line)
    StmtAt ms (Declare line ds) = VariablesAt code line ms ds
    StmtAt ms (Print line is) = ItemsAt code line ms is
    StmtAt ms (PrintTogether line is) = TogetherAt code line ms is
    StmtAt ms (Read line ts) = TargetsAt code line ms ts
    StmtAt ms (If line test chosen other) = Both (ExprAt code line ms test) (Fork code line (StmtAt ms chosen) (StmtAt ms other))
    StmtAt ms (Loop line order test step body) = Turns code line order (ExprAt code line ms test) (StepAt code line ms step) (λ m. StmtAt (m ∷ ms) body)
    StmtAt ms (Break line) = ExitAt ToBreak ms
    StmtAt ms (Continue line) = ExitAt ToContinue ms
    StmtAt ms (Return line None) = ExitAt ToEnd ms
    StmtAt ms (Return line (Some e)) = Both (ExprAt code line ms e) (ExitAt ToReturn ms)
    StmtAt ms (Owes line) = One code op.NoReturn line
    StmtAt ms (Fill line n b d) = FilledAt code line ms n b d
    StmtAt ms (OfEvents s) = EventAt ms s
    StmtAt ms (OfTasks s) = TaskAt ms s

    -- what goes on behind a switch may be unwound there, and is delivered events
    pub TaskAt : List CodeMark → TaskStmt → ℕ → ℕ → Type 0
    TaskAt ms (Resume line) = Both (One code op.Resume line) (Both (Risk code ms op.Land line) (PollAt code ms line))
    TaskAt ms (Suspend line) = Both (One code op.Suspend line) (Both (Risk code ms op.Land line) (PollAt code ms line))
    -- what nobody wrote
    TaskAt ms (SetUp r) = One code (op.Coroutine r) 0
    TaskAt ms Enliven = One code op.Live 0
    TaskAt ms TakeDown = One code op.UnwindCoroutine 0
    -- one that has let others run is delivered events too
    TaskAt ms (Yield line) = Both (One code op.Yield line) (PollAt code ms line)
    TaskAt ms (Migrate line e) = Both (ExprAt code line ms e) (One code op.Migrate line)
    TaskAt ms (Accept line site cs) =
        Both (GuardsAt ms line cs) (Both (AcceptsAt code ms site (clause_count cs) line) (ChoosesAt code line (clause_count cs) (λ otherwise places end. BranchesAt ms line cs otherwise places end)))

    -- the branches of these clauses, each at its place, and what is done without a clause; all go on at the end
    pub BranchesAt : List CodeMark → ℕ → Clauses → ℕ → List ℕ → ℕ → ℕ → ℕ → Type 0
    BranchesAt ms line NoClauses otherwise places end = NoBranch otherwise places end
    BranchesAt ms line (Otherwise b) otherwise places end = ElseAt otherwise places (StmtAt ms b)
    BranchesAt ms line (MoreClauses guard b cs) otherwise places end =
        ClauseAt code line places end (StmtAt ms b) (λ rest. BranchesAt ms line cs otherwise rest end)

    pub EventAt : List CodeMark → EventStmt → ℕ → ℕ → Type 0
    EventAt ms (Throw line r) = Both (RaisedAt code line ms r) (Risk code ms op.Throw line)
    -- what the handler hands over goes
    EventAt ms (Raise line r) = Both (RaisedAt code line ms r) (Both (Risk code ms op.Raise line) (One code op.Discard line))
    EventAt ms (Try line body hs) = Guarded code line ms (handler_rows hs) (λ ns. StmtsAt ns line body) (λ first pad. HandlersAt ms first pad hs)
    EventAt ms (RaiseAt line r e) = Both (RaisedAt code line ms r) (Both (ExprAt code line ms e) (One code op.RaiseAt line))
    -- what is enabled is delivered at once; behind the statement, and on each way out of it, is enabled what was before
    EventAt ms (Enable line events cell s) =
        ScopedAt line ms (Restores cell) (λ ns. Both (One code (op.Enable events cell) line) (Both (PollAt code ns line) (StmtAt ns s)))
    EventAt ms (Disable line events cell s) =
        ScopedAt line ms (Restores cell) (λ ns. Both (One code (op.Disable events cell) line) (StmtAt ns s))

    -- the handlers of a guarded block whose last one has this row; a handler that catches goes on at this pad
    pub HandlersAt : List CodeMark → ℕ → ℕ → Handlers → ℕ → ℕ → Type 0
    HandlersAt ms first pad NoHandlers = Nothing
    HandlersAt ms first pad (MoreHandlers resumes event cell line body rest) =
        Both (NamedAt event (HandledAt code (first + handler_rows rest) (handler_of resumes event (length (handlers ms))) (Both (KeepsAt code line cell) (HandlerBy resumes ms pad line (λ ns. StmtsAt ns line body))))) (HandlersAt ms first pad rest)

    -- the statements of a block of this line
    pub StmtsAt : List CodeMark → ℕ → Stmts → ℕ → ℕ → Type 0
    StmtsAt ms line Nil = Nothing
    StmtsAt ms line (Then s ss) = Both (StmtAt ms s) (StmtsAt ms line ss)
    StmtsAt ms line (Scoped c ss) = ScopedAt line ms c (λ ns. StmtsAt ns line ss)
    StmtsAt ms line (Built c ss) = BuiltAt line ms c (λ ns. StmtsAt ns line ss)

  -- the statements of the routine of this number, whose block has this line, and what is done behind them. What builds and destroys
  -- the fields of an object has no line.
  abbrev pub BodyAt : Purpose → ℕ → ℕ → Stmts → ℕ → ℕ → Type 0
  BodyAt TaskMain number line ss = MainAt code main_of.Task number line (λ ms. StmtsAt ms line ss)
  BodyAt CoroutineMain number line ss = MainAt code main_of.Coroutine number line (λ ms. StmtsAt ms line ss)
  BodyAt Procedure number line ss = Both (StmtsAt (mark.Body number ∷ []) line ss) (One code op.Return 0)
  BodyAt Function number line ss = Both (StmtsAt (mark.Body number ∷ []) line ss) (Both (One code op.NoReturn line) (One code op.Return 0))
  BodyAt Builder number line ss = Both (StmtsAt (mark.Body number ∷ []) 0 ss) (One code op.Return 0)

  -- the code of the routine of this number: its body, and its end. Those with greater numbers than the last that is written, and than
  -- its own, may be called from it without a tick.
  pub record RoutineAt (last number : ℕ) (routine : Routine) (begins : RoutineCode) (a z : ℕ) : Type 0 where
    pub entry : begins.entry ≡ a
    pub cells : begins.cells ≡ routine.cells
    pub params : begins.params ≡ routine.params
    pub written : begins.written ≡ routine.written
    pub body : BodyAt routine.purpose (max number last) routine.line routine.body a z

  -- routines, from this number on, one after another
  abbrev pub RoutinesAt : ℕ → ℕ → List Routine → List RoutineCode → ℕ → ℕ → Type 0
  RoutinesAt last number [] [] = Nothing
  RoutinesAt last number [] (c ∷ cs) = λ a z. ⊥
  RoutinesAt last number (r ∷ rs) [] = λ a z. ⊥
  RoutinesAt last number (r ∷ rs) (c ∷ cs) = Both (RoutineAt last number r c) (RoutinesAt last (number + 1) rs cs)

-- the code of a program: its routines, and nothing else. Behind the last that is written stand those in which no event is raised.
pub record Lowered (source : Source) (code : Code) : Type 0 where
  pub last : ℕ
  pub routines : RoutinesAt (laid_of code) last 0 source.routines code.routines 0 (length code.ops)
  pub silent : (k : ℕ) (r : Routine) → slice_get source.routines k ≡ Some r → last < k → silent_all r.body
  pub classes : code.classes ≡ map (λ c. c.cells) source.classes
  pub sites : code.sites ≡ source.sites
  pub texts : code.texts ≡ source.texts
