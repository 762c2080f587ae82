-- The text of code.
use Rattle.std.specs.Prelude.{ℕ, ℤ, pos, ◌+◌, List, [], ◌∷◌, ◌++◌, codes, decimal}
use Rattle.std.specs.Fmt.{signed_decimal}
use Rattle.uc_code.specs.declared.op.Op.{Op}
use Rattle.uc_tree.specs.ValueForms.{form_number}
use Rattle.uc_code.specs.declared.op.Op.TheVariants.{Push, Duplicate, Discard, CopyBelow, DiscardBelow, Local, Own, This, Via, ViaThis, Field, Counted, Index, Load, Store, Keep, Set, Bind, Clear, Add, Subtract, Multiply, Divide, Remainder, Negate, Not, Equal, NotEqual, Less, LessEqual, Greater, GreaterEqual, ToChar, ToBool, Jump, IfZero, IfNonzero, Count, More, Fill, Sweep, Tick, Call, CallOn, CallUnwritten, Return, ReturnValue, ReturnNone, NoReturn, Enter, Leave, Arrive, Make, BindMade, Made, Spawn, Gone, GiveUp, Coroutine, Live, Alive, UnwindCoroutine, Forget, Resume, Suspend, Land, EndMain, EndTask, Escape, Throw, Raise, RaiseAt, Handled, Unhandled, Unwind, Enable, Disable, Restore, Poll, Deliver, Accept, Failed, Choose, Condition, Wait, Signal, SignalBlock, Empty, Front, Print, Text, Hold, Flush, Read, Fail, Yield, Cluster, ClusterEnd, Processor, ProcessorEnd, Migrate}
use Rattle.uc_code.specs.declared.rows.HandlerRow.{HandlerRow}
use Rattle.uc_code.specs.declared.rows.RowKind.{RowKind}
use Rattle.uc_code.specs.declared.rows.RowKind.TheVariants.{Catch, CatchResume, CleanUp}
use Rattle.uc_code.specs.declared.rows.Instruction.{Instruction}
use Rattle.uc_code.specs.Codes.{Code}

-- the word of each op
abbrev pub word_of : Op → List ℕ
word_of (Push _) = codes "push"
word_of Duplicate = codes "dup"
word_of Discard = codes "drop"
word_of CopyBelow = codes "over"
word_of DiscardBelow = codes "nip"
word_of (Local _) = codes "local"
word_of Own = codes "own"
word_of (This _) = codes "this"
word_of (Via _) = codes "via"
word_of (ViaThis _) = codes "viathis"
word_of (Field _) = codes "field"
word_of Counted = codes "counted"
word_of (Index _ _) = codes "index"
word_of Load = codes "load"
word_of Store = codes "store"
word_of Keep = codes "keep"
word_of (Set _) = codes "set"
word_of Bind = codes "bind"
word_of (Clear _ _) = codes "clear"
word_of Add = codes "add"
word_of Subtract = codes "sub"
word_of Multiply = codes "mul"
word_of Divide = codes "div"
word_of Remainder = codes "rem"
word_of Negate = codes "neg"
word_of Not = codes "not"
word_of Equal = codes "eq"
word_of NotEqual = codes "ne"
word_of Less = codes "lt"
word_of LessEqual = codes "le"
word_of Greater = codes "gt"
word_of GreaterEqual = codes "ge"
word_of ToChar = codes "char"
word_of ToBool = codes "bool"
word_of (Jump _) = codes "jump"
word_of (IfZero _) = codes "zero"
word_of (IfNonzero _) = codes "nonzero"
word_of (Count _ _) = codes "count"
word_of More = codes "more"
word_of (Fill _ _) = codes "fill"
word_of (Sweep _) = codes "sweep"
word_of Tick = codes "tick"
word_of (Call _) = codes "call"
word_of (CallOn _) = codes "callon"
word_of (CallUnwritten _) = codes "callun"
word_of Return = codes "ret"
word_of ReturnValue = codes "retval"
word_of ReturnNone = codes "retnone"
word_of NoReturn = codes "noret"
word_of (Enter _ _) = codes "enter"
word_of (Leave _) = codes "leave"
word_of (Arrive _) = codes "arrive"
word_of (Make _ _) = codes "make"
word_of (BindMade _ _) = codes "bindmade"
word_of Made = codes "made"
word_of (Spawn _) = codes "spawn"
word_of Gone = codes "gone"
word_of GiveUp = codes "giveup"
word_of (Coroutine _) = codes "coro"
word_of Live = codes "live"
word_of (Alive _) = codes "alive"
word_of UnwindCoroutine = codes "uncoro"
word_of Forget = codes "forget"
word_of Resume = codes "resume"
word_of Suspend = codes "suspend"
word_of Land = codes "land"
word_of EndMain = codes "endmain"
word_of EndTask = codes "endtask"
word_of Escape = codes "escape"
word_of Throw = codes "throw"
word_of Raise = codes "raise"
word_of RaiseAt = codes "raiseat"
word_of Handled = codes "handled"
word_of Unhandled = codes "unhandled"
word_of Unwind = codes "unwind"
word_of (Enable _ _) = codes "enable"
word_of (Disable _ _) = codes "disable"
word_of (Restore _) = codes "restore"
word_of (Poll _) = codes "poll"
word_of (Deliver _) = codes "deliver"
word_of (Accept _ _ _) = codes "accept"
word_of (Failed _) = codes "failed"
word_of (Choose _ _) = codes "choose"
word_of (Condition _ _) = codes "condition"
word_of Wait = codes "wait"
word_of Signal = codes "signal"
word_of SignalBlock = codes "sigblock"
word_of Empty = codes "empty"
word_of Front = codes "front"
word_of (Print _) = codes "print"
word_of (Text _) = codes "text"
word_of Hold = codes "hold"
word_of Flush = codes "flush"
word_of (Read _) = codes "read"
word_of Fail = codes "fail"
word_of Yield = codes "yield"
word_of Cluster = codes "cluster"
word_of ClusterEnd = codes "clusterend"
word_of Processor = codes "proc"
word_of ProcessorEnd = codes "procend"
word_of Migrate = codes "migrate"

-- the operands of each op
abbrev pub operands_of : Op → List ℤ
operands_of (Push n) = n ∷ []
operands_of Duplicate = []
operands_of Discard = []
operands_of CopyBelow = []
operands_of DiscardBelow = []
operands_of (Local n) = pos n ∷ []
operands_of Own = []
operands_of (This n) = pos n ∷ []
operands_of (Via n) = pos n ∷ []
operands_of (ViaThis n) = pos n ∷ []
operands_of (Field n) = pos n ∷ []
operands_of Counted = []
operands_of (Index length size) = pos length ∷ pos size ∷ []
operands_of Load = []
operands_of Store = []
operands_of Keep = []
operands_of (Set n) = pos n ∷ []
operands_of Bind = []
operands_of (Clear cell cells) = pos cell ∷ pos cells ∷ []
operands_of Add = []
operands_of Subtract = []
operands_of Multiply = []
operands_of Divide = []
operands_of Remainder = []
operands_of Negate = []
operands_of Not = []
operands_of Equal = []
operands_of NotEqual = []
operands_of Less = []
operands_of LessEqual = []
operands_of Greater = []
operands_of GreaterEqual = []
operands_of ToChar = []
operands_of ToBool = []
operands_of (Jump n) = pos n ∷ []
operands_of (IfZero n) = pos n ∷ []
operands_of (IfNonzero n) = pos n ∷ []
operands_of (Count elements test) = pos elements ∷ pos test ∷ []
operands_of More = []
operands_of (Fill length turn) = pos length ∷ pos turn ∷ []
operands_of (Sweep n) = pos n ∷ []
operands_of Tick = []
operands_of (Call n) = pos n ∷ []
operands_of (CallOn n) = pos n ∷ []
operands_of (CallUnwritten n) = pos n ∷ []
operands_of Return = []
operands_of ReturnValue = []
operands_of ReturnNone = []
operands_of NoReturn = []
operands_of (Enter member routine) = pos member ∷ pos routine ∷ []
operands_of (Leave n) = pos n ∷ []
operands_of (Arrive n) = pos n ∷ []
operands_of (Make class routine) = pos class ∷ pos routine ∷ []
operands_of (BindMade class routine) = pos class ∷ pos routine ∷ []
operands_of Made = []
operands_of (Spawn n) = pos n ∷ []
operands_of Gone = []
operands_of GiveUp = []
operands_of (Coroutine n) = pos n ∷ []
operands_of Live = []
operands_of (Alive n) = pos n ∷ []
operands_of UnwindCoroutine = []
operands_of Forget = []
operands_of Resume = []
operands_of Suspend = []
operands_of Land = []
operands_of EndMain = []
operands_of EndTask = []
operands_of Escape = []
operands_of Throw = []
operands_of Raise = []
operands_of RaiseAt = []
operands_of Handled = []
operands_of Unhandled = []
operands_of Unwind = []
operands_of (Enable events cell) = pos events ∷ pos cell ∷ []
operands_of (Disable events cell) = pos events ∷ pos cell ∷ []
operands_of (Restore n) = pos n ∷ []
operands_of (Poll n) = pos n ∷ []
operands_of (Deliver n) = pos n ∷ []
operands_of (Accept site guards end) = pos site ∷ pos guards ∷ pos end ∷ []
operands_of (Failed n) = pos n ∷ []
operands_of (Choose clauses end) = pos clauses ∷ pos end ∷ []
operands_of (Condition first count) = pos first ∷ pos count ∷ []
operands_of Wait = []
operands_of Signal = []
operands_of SignalBlock = []
operands_of Empty = []
operands_of Front = []
operands_of (Print form) = pos (form_number form) ∷ []
operands_of (Text n) = pos n ∷ []
operands_of Hold = []
operands_of Flush = []
operands_of (Read form) = pos (form_number form) ∷ []
operands_of Fail = []
operands_of Yield = []
operands_of Cluster = []
operands_of ClusterEnd = []
operands_of Processor = []
operands_of ProcessorEnd = []
operands_of Migrate = []

-- numbers in decimal, each behind a space
abbrev pub spaced : List ℤ → List ℕ
spaced [] = []
spaced (n ∷ ns) = codes " " ++ signed_decimal n ++ spaced ns

-- the line of the op with this number
abbrev pub op_line : ℕ → Op → List ℕ
op_line number op = decimal number ++ codes ": " ++ word_of op ++ spaced (operands_of op) ++ codes "\n"

abbrev pub kind_number : RowKind → ℕ
kind_number Catch = 0
kind_number CatchResume = 1
kind_number CleanUp = 2

abbrev pub fields_of : HandlerRow → List ℤ
fields_of row = pos row.from ∷ pos row.to ∷ pos row.outer ∷ pos (kind_number row.kind) ∷ pos row.event ∷ pos row.entry ∷ []

-- the line of the row with this number
abbrev pub row_line : ℕ → HandlerRow → List ℕ
row_line number row = codes "row " ++ decimal number ++ codes ":" ++ spaced (fields_of row) ++ codes "\n"

-- the lines of ops, of which the first has this number
abbrev pub op_lines : ℕ → List Instruction → List ℕ
op_lines number [] = []
op_lines number (i ∷ is) = op_line number i.op ++ op_lines (number + 1) is

abbrev pub row_lines : ℕ → List HandlerRow → List ℕ
row_lines number [] = []
row_lines number (r ∷ rs) = row_line number r ++ row_lines (number + 1) rs

-- the listing of code: a line for each op, and then one for each handler row
abbrev pub listing_of : Code → List ℕ
listing_of code = op_lines 0 code.ops ++ row_lines 0 code.rows
