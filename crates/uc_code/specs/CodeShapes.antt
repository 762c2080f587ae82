-- Where the code of a piece stands. A piece has a range of ops, from a place up to before another; what a range must
-- hold is said by cases on the piece, and these are the parts of which such cases are made.
use Rattle.std.specs.Prelude.{◌≡◌, ◌≢◌, ℕ, ◌+◌, ◌^◌, ◌≤◌, ◌<◌, List, [], ◌∷◌, true, Some, slice_get, length}
use Rattle.uc_code.specs.declared.op.Op.{Op}
use Rattle.uc_code.specs.declared.op.Op.TheVariants.{Jump, IfZero, IfNonzero, Tick, CallUnwritten, Count, Return, EndMain, EndTask, Escape, Handled, Unhandled, Unwind, Raise, Poll, Deliver, Discard, Leave, Accept, Failed, Choose}
use Rattle.uc_code.specs.declared.rows.HandlerRow.{HandlerRow}
use Rattle.uc_code.specs.declared.rows.Handler.{Handler}
use Rattle.uc_code.specs.declared.rows.RowKind.TheVariants.{CleanUp}
use Rattle.uc_code.specs.declared.rows.TheConstants.{ANY_EVENT, OPEN_END}
use Rattle.uc_code.specs.declared.rows.MainOf.{MainOf}
use Rattle.uc_code.specs.declared.rows.MainOf.TheVariants as main_of
use Rattle.uc_code.specs.declared.rows.CodeMark.{CodeMark}
use Rattle.uc_code.specs.declared.rows.CodeMark.TheVariants.{Finish, Loop, Whole, Elements, Outward}
use Rattle.uc_tree.specs.Source.{Order, TestFirst, BodyFirst, NoTest}
use Rattle.uc_code.specs.Layout.{Laid, handlers, guards, routine_in, chain, takes_events}

-- the op at a place, with its line
pub record OpAt (code : Laid) (a : ℕ) (op : Op) (line : ℕ) : Type 0 where
  pub here : slice_get code.ops a ≡ Some (record { op = op; line = line })

-- no op
pub record Nothing (a z : ℕ) : Type 0 where
  pub end : z ≡ a

-- no range: no code is that of such a piece
abbrev pub Never : ℕ → ℕ → Type 0
Never a z = ⊥

-- one op
pub record One (code : Laid) (op : Op) (line a z : ℕ) : Type 0 where
  pub here : OpAt code a op line
  pub end : z ≡ a + 1

-- one op from which an event may come: its handlers are those of the marks
pub record Risk (code : Laid) (marks : List CodeMark) (op : Op) (line a z : ℕ) : Type 0 where
  pub here : OpAt code a op line
  pub end : z ≡ a + 1
  pub under : chain code.rows z ≡ handlers marks

-- a call of a constructor or a destructor that nobody wrote, which stands further on among the routines
pub record CallsBehind (code : Laid) (marks : List CodeMark) (routine line a z : ℕ) : Type 0 where
  pub risk : Risk code marks (CallUnwritten routine) line a z
  pub behind : routine_in marks < routine

-- a clean-up, which takes whatever unwinds
abbrev pub clean_up : ℕ → Handler
clean_up entry = record { kind = CleanUp; event = ANY_EVENT; rest = 0; entry = entry }

-- this is the handler of this row; an open row has none yet
pub record HandlerAt (code : Laid) (number : ℕ) (handler : Handler) : Type 0 where
  pub row : HandlerRow
  pub there : slice_get code.rows number ≡ Some row
  pub kind : row.kind ≡ handler.kind
  pub event : row.event ≡ handler.event
  pub rest : row.rest ≡ handler.rest
  pub entry : row.entry ≡ handler.entry
  pub is_set : 0 < handler.entry

-- the row of a handler whose guarded block has ended and that is not laid out yet
pub record IsBare (code : Laid) (number : ℕ) : Type 0 where
  pub row : HandlerRow
  pub there : slice_get code.rows number ≡ Some row
  pub kind : takes_events row.kind ≡ true
  pub ended : row.to < OPEN_END
  pub none : row.entry ≡ 0

-- two pieces, one after another
pub record Both (B C : ℕ → ℕ → Type 0) (a z : ℕ) : Type 0 where
  pub middle : ℕ
  pub first : B a middle
  pub second : C middle z

-- a piece and an op
abbrev pub Behind : Laid → (ℕ → ℕ → Type 0) → Op → ℕ → ℕ → ℕ → Type 0
Behind code B op line = Both B (One code op line)

-- a piece that is left out where the number before it is 0
pub record When (code : Laid) (line : ℕ) (B : ℕ → ℕ → Type 0) (a z : ℕ) : Type 0 where
  pub skip : OpAt code a (IfZero z) line
  pub body : B (a + 1) z

-- a piece that is left out where the number before it is not 0
pub record Unless (code : Laid) (line : ℕ) (B : ℕ → ℕ → Type 0) (a z : ℕ) : Type 0 where
  pub skip : OpAt code a (IfNonzero z) line
  pub body : B (a + 1) z

-- a choice of two pieces: the first and a jump over the second, which is taken where the number before them is 0
pub record Fork (code : Laid) (line : ℕ) (B C : ℕ → ℕ → Type 0) (a z : ℕ) : Type 0 where
  pub middle : ℕ
  pub choose : OpAt code a (IfZero (middle + 1)) line
  pub first : B (a + 1) middle
  pub leave : OpAt code middle (Jump z) line
  pub second : C (middle + 1) z

-- the pads of a loop that begins here: `break` jumps to the first, `continue` to the second
abbrev pub pads_at : ℕ → CodeMark
pads_at a = Loop (a + 1) (a + 2)

-- where a loop begins
abbrev pub begin_at : Order → ℕ → ℕ → ℕ
begin_at TestFirst turn test = test
begin_at BodyFirst turn test = turn
begin_at NoTest turn test = turn

-- the test, which leads to the next turn
abbrev pub BackAt : Laid → Order → (ℕ → ℕ → Type 0) → ℕ → ℕ → ℕ → ℕ → Type 0
BackAt code TestFirst T turn line = Both T (One code (IfNonzero turn) line)
BackAt code BodyFirst T turn line = Both T (One code (IfNonzero turn) line)
BackAt code NoTest T turn line = One code (Jump turn) line

-- a loop: a jump to where it begins, the two pads, a tick, the body under the mark of the loop, the step, and the test
pub record Turns (code : Laid) (line : ℕ) (order : Order) (T S : ℕ → ℕ → Type 0) (B : CodeMark → ℕ → ℕ → Type 0) (a z : ℕ) : Type 0 where
  pub step_at : ℕ
  pub test_at : ℕ
  pub begin : OpAt code a (Jump (begin_at order (a + 3) test_at)) line
  pub leave : OpAt code (a + 1) (Jump z) line
  pub again : OpAt code (a + 2) (Jump step_at) line
  pub tick : OpAt code (a + 3) Tick line
  pub body : B (pads_at a) (a + 4) step_at
  pub step : S step_at test_at
  pub back : BackAt code order T (a + 3) line test_at z

-- a block that is left as a whole: a jump over the pad by which whatever leaves it goes on behind it. Where it is unwound, an op tests
-- whether that is over.
pub record WholeAt (code : Laid) (line : ℕ) (ms : List CodeMark) (B : List CodeMark → ℕ → ℕ → Type 0) (a z : ℕ) : Type 0 where
  pub row : ℕ
  pub body_end : ℕ
  pub begin : OpAt code a (Jump (a + 2)) line
  pub leave : OpAt code (a + 1) (Jump z) line
  pub body : B (Whole (a + 1) row ∷ ms) (a + 2) body_end
  pub skip : OpAt code body_end (Jump z) line
  pub tests : Risk code ms Handled line (body_end + 1) z
  pub handler : HandlerAt code row (clean_up (body_end + 1))

-- the end of a main, and its end where it is unwound

abbrev pub main_end : MainOf → Op
main_end main_of.Task = EndTask
main_end main_of.Coroutine = EndMain

abbrev pub main_left : MainOf → Op
main_left main_of.Task = Unhandled
main_left main_of.Coroutine = Escape

-- the statements of a main, which ends in this line, also where it is unwound
pub record MainAt (code : Laid) (main : MainOf) (routine line : ℕ) (B : List CodeMark → ℕ → ℕ → Type 0) (a z : ℕ) : Type 0 where
  pub row : ℕ
  pub body_end : ℕ
  pub body : B (Finish main routine line row ∷ []) a body_end
  pub returns : OpAt code body_end (main_end main) line
  pub unwound : OpAt code (body_end + 1) (main_left main) line
  pub end : z ≡ body_end + 2
  pub handler : HandlerAt code row (clean_up (body_end + 1))

-- a guarded block with so many handlers: a jump over the pad by which its statements and its handlers go on behind it, the statements,
-- and behind them the handlers, the first of which has the last row
pub record Guarded (code : Laid) (line : ℕ) (ms : List CodeMark) (count : ℕ) (B : List CodeMark → ℕ → ℕ → Type 0) (H : ℕ → ℕ → ℕ → ℕ → Type 0) (a z : ℕ) : Type 0 where
  pub first : ℕ
  pub body_end : ℕ
  pub begin : OpAt code a (Jump (a + 2)) line
  pub pad : OpAt code (a + 1) (Jump z) line
  pub body : B (guards first count ms) (a + 2) body_end
  pub leave : OpAt code body_end (Jump (a + 1)) line
  pub handlers : H first (a + 1) (body_end + 1) z

-- the code of a handler begins where its row says
pub record HandledAt (code : Laid) (number : ℕ) (handler : ℕ → Handler) (B : ℕ → ℕ → Type 0) (a z : ℕ) : Type 0 where
  pub handler_at : HandlerAt code number (handler a)
  pub body : B a z

-- statements of a handler of resumptions, which has nothing around it in its routine
pub record ApartAt (code : Laid) (ms : List CodeMark) (B : List CodeMark → ℕ → ℕ → Type 0) (a z : ℕ) : Type 0 where
  pub row : ℕ
  pub body_end : ℕ
  pub body : B (Outward 0 row ∷ ms) a body_end
  pub returns : OpAt code body_end Return 0
  pub end : z ≡ body_end + 1

-- turns over elements, and the test behind them, which leads back to where a turn begins
pub record Rounds (code : Laid) (line : ℕ) (back : ℕ → Op) (T : ℕ → ℕ → Type 0) (test a z : ℕ) : Type 0 where
  pub turn : T a test
  pub again : OpAt code test (back a) line
  pub end : z ≡ test + 1

-- turns over the elements of an array of a length: so many stand at first, which are tested before a turn. Where an event comes, those
-- that stand are destroyed by turns of the second form, from the test on, and unwinding goes on.
pub record OverElements (code : Laid) (line : ℕ) (ms : List CodeMark) (first most : ℕ) (back undo : ℕ → Op) (T D : List CodeMark → ℕ → ℕ → Type 0) (a z : ℕ) : Type 0 where
  pub row : ℕ
  pub test : ℕ
  pub entry : ℕ
  pub end : ℕ
  pub few : most < 2 ^ 32
  pub begin : OpAt code a (Count first test) line
  pub rounds : Rounds code line back (T (Elements row ∷ ms)) test (a + 1) (test + 1)
  pub leave : OpAt code (test + 1) (Jump z) line
  pub undoes : Rounds code line undo (D (Elements row ∷ ms)) entry (test + 2) end
  pub unwind : Risk code ms Unwind line end z
  pub handler : HandlerAt code row (clean_up entry)

-- what follows an object that is built: statements in its scope, its clean-up, and a pad that cleans up where they are unwound
pub record ScopeOf (code : Laid) (line : ℕ) (ms : List CodeMark) (M : ℕ → CodeMark) (C U : ℕ → ℕ → Type 0) (B : List CodeMark → ℕ → ℕ → Type 0) (a z : ℕ) : Type 0 where
  pub row : ℕ
  pub body_end : ℕ
  pub clean_end : ℕ
  pub body : B (M row ∷ ms) a body_end
  pub clean : C body_end clean_end
  pub leave : OpAt code clean_end (Jump z) line
  pub unwinds : U (clean_end + 1) z
  pub handler : HandlerAt code row (clean_up (clean_end + 1))

-- what follows a part of an object that is built: the other parts and the body, and behind them its clean-up, for unwinding alone
pub record BehindPart (code : Laid) (line : ℕ) (ms : List CodeMark) (M : ℕ → CodeMark) (C : ℕ → ℕ → Type 0) (B : List CodeMark → ℕ → ℕ → Type 0) (a z : ℕ) : Type 0 where
  pub row : ℕ
  pub body_end : ℕ
  pub body : B (M row ∷ ms) a body_end
  pub leave : OpAt code body_end (Jump z) line
  pub unwinds : Both C (Risk code ms Unwind line) (body_end + 1) z
  pub handler : HandlerAt code row (clean_up (body_end + 1))

-- the events that are enabled and pending are delivered one by one: each is raised for resumption, what its handler hands over goes, and
-- the next one is asked for
pub record PollAt (code : Laid) (ms : List CodeMark) (line a z : ℕ) : Type 0 where
  pub poll : OpAt code a (Poll z) line
  pub deliver : Risk code ms (Deliver z) line (a + 1) (a + 2)
  pub discard : OpAt code (a + 2) Discard line
  pub again : OpAt code (a + 3) (Jump a) line
  pub end : z ≡ a + 4

-- a mutex call leaves the object at hand, and goes on behind this. A call that is not unwound and has left it is delivered events then
pub record LeavesAt (code : Laid) (ms : List CodeMark) (line a z : ℕ) : Type 0 where
  pub leave : OpAt code a (Leave z) line
  pub polls : PollAt code ms line (a + 1) z

-- where the call that an accept statement took has failed, that is raised for resumption
pub record FailedAt (code : Laid) (ms : List CodeMark) (line a z : ℕ) : Type 0 where
  pub test : OpAt code a (Failed z) line
  pub raises : Both (Risk code ms Raise line) (One code Discard line) (a + 1) z

-- an accept statement with so many guards asks, and then is delivered events; without a true guard it goes on behind this
pub record AcceptsAt (code : Laid) (ms : List CodeMark) (site guards line a z : ℕ) : Type 0 where
  pub middle : ℕ
  pub asks : OpAt code a (Accept site guards z) line
  pub failed : FailedAt code ms line (a + 1) middle
  pub polls : PollAt code ms line middle z

-- jumps to these places, one after another
abbrev pub JumpsAt : Laid → ℕ → List ℕ → ℕ → ℕ → Type 0
JumpsAt code line [] = Nothing
JumpsAt code line (to ∷ tos) = Both (One code (Jump to) line) (JumpsAt code line tos)

-- one of so many clauses is chosen by its number: a jump for each leads to its branch, and the first of them to what is done without a
-- clause
pub record ChoosesAt (code : Laid) (line clauses : ℕ) (B : ℕ → List ℕ → ℕ → ℕ → ℕ → Type 0) (a z : ℕ) : Type 0 where
  pub otherwise : ℕ
  pub places : List ℕ
  pub count : length places ≡ clauses
  pub middle : ℕ
  pub choose : OpAt code a (Choose clauses z) line
  pub jumps : JumpsAt code line (otherwise ∷ places) (a + 1) middle
  pub branches : B otherwise places z middle z

-- no branches are left: without a clause all goes on at the end
pub record NoBranch (otherwise : ℕ) (places : List ℕ) (end a z : ℕ) : Type 0 where
  pub goes : otherwise ≡ end
  pub none : places ≡ []
  pub nothing : z ≡ a

-- what is done without a clause
pub record ElseAt (otherwise : ℕ) (places : List ℕ) (B : ℕ → ℕ → Type 0) (a z : ℕ) : Type 0 where
  pub here : otherwise ≡ a
  pub none : places ≡ []
  pub body : B a z

-- the branch of a clause, behind which all goes on at the end, and those of the other clauses
pub record ClauseAt (code : Laid) (line : ℕ) (places : List ℕ) (end : ℕ) (B : ℕ → ℕ → Type 0) (R : List ℕ → ℕ → ℕ → Type 0) (a z : ℕ) : Type 0 where
  pub rest : List ℕ
  pub here : places ≡ a ∷ rest
  pub middle : ℕ
  pub body : B a middle
  pub leave : OpAt code middle (Jump end) line
  pub others : R rest (middle + 1) z

-- jumps alone lead from a place to another
pub data Leads (code : Laid) : ℕ → ℕ → Type 0 where
  Arrived : (a : ℕ) → Leads code a a
  Jumped : (a b z line : ℕ) → OpAt code a (Jump b) line → Leads code b z → Leads code a z

-- the ops of a range stay, with their handlers
pub record Same (old new : Laid) (a z : ℕ) : Type 0 where
  pub same : (i : ℕ) (op : Op) (line : ℕ) → a ≤ i → i < z → OpAt old i op line → OpAt new i op line
  pub chains : (next : ℕ) → a < next → next ≤ z → chain new.rows next ≡ chain old.rows next
  pub handlers : (number : ℕ) (handler : Handler) → HandlerAt old number handler → HandlerAt new number handler

-- all ops stay with their handlers, and more may come behind them
pub record Kept (old new : Laid) : Type 0 where
  pub longer : length old.ops ≤ length new.ops
  pub same : (i : ℕ) (op : Op) (line : ℕ) → OpAt old i op line → OpAt new i op line
  pub chains : (next : ℕ) → next ≤ length old.ops → chain new.rows next ≡ chain old.rows next
  pub handlers : (number : ℕ) (handler : Handler) → HandlerAt old number handler → HandlerAt new number handler
  pub bare : (number : ℕ) → IsBare old number → IsBare new number

-- the same, but one row has got its handler
pub record KeptBut (given : ℕ) (old new : Laid) : Type 0 where
  pub longer : length old.ops ≤ length new.ops
  pub same : (i : ℕ) (op : Op) (line : ℕ) → OpAt old i op line → OpAt new i op line
  pub chains : (next : ℕ) → next ≤ length old.ops → chain new.rows next ≡ chain old.rows next
  pub handlers : (number : ℕ) (handler : Handler) → HandlerAt old number handler → HandlerAt new number handler
  pub bare : (number : ℕ) → number ≢ given → IsBare old number → IsBare new number

-- what a piece's code must be: its range does not run backwards, and depends on no op outside of it
pub record Stable (B : Laid → ℕ → ℕ → Type 0) : Type 0 where
  pub rises : (code : Laid) (a z : ℕ) → B code a z → a ≤ z
  pub moves : (old new : Laid) (a z : ℕ) → Same old new a z → B old a z → B new a z
