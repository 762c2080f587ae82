-- The code of statements goes on standing where its own range does not change.
use Rattle.std.proofs.Common.{ℕ, ◌+◌, arith, pos, Bool, true, false, List, [], ◌∷◌, Option, Some, None, length}
use Rattle.uc_tree.specs.Source.{Clauses, NoClauses, Otherwise, MoreClauses, clause_count, Restores, Expr, CleanUp, Item, Show, ShowText, Target, Declared, Stmt, Skip, Block, Whole, Evaluate, Declare, Print, PrintTogether, Read, If, Loop, Break, Continue, Return, Owes, Fill, OfEvents, OfTasks, TaskStmt, Resume, Suspend, SetUp, Enliven, TakeDown, Yield, Migrate, Accept, EventStmt, Throw, Raise, Try, RaiseAt, Enable, Disable, Raised, Plainly, BuiltAt as BuildsAt, AgainFrom, Handlers, NoHandlers, MoreHandlers, Stmts, Nil, Then, Scoped, Built, Way, ToBreak, ToContinue, ToReturn, ToEnd}
use Rattle.uc_code.specs.declared.op.Op.{Op}
use Rattle.uc_code.specs.declared.op.Op.TheVariants as op
use Rattle.uc_code.specs.declared.rows.Cleaning.{Cleaning}
use Rattle.uc_code.specs.declared.rows.Cleaning.TheVariants as cleaning
use Rattle.uc_code.specs.declared.rows.CodeMark.{CodeMark}
use Rattle.uc_code.specs.declared.rows.CodeMark.TheVariants as mark
use Rattle.uc_tree.specs.Hidden.{EVENT_FIELDS}
use Rattle.uc_code.specs.CodeShapes.{One, PollAt, Both, HandledAt, Stable, main_end}
use Rattle.uc_code.specs.Layout.{Laid, handlers}
use Rattle.uc_code.specs.declared.rows.ObjectCall.{ObjectCall}
use Rattle.uc_code.specs.Lowered.{GuardsAt, BranchesAt, item_op, ExprAt, ValueAt, PiecesAt, StepAt, Any, ExitAt, CallBuilt, CallDone, CleanAt, ArrivesAt, PadAt, FilledAt, ScopedAt, BuiltAt, TaskAt, StmtAt, StmtsAt, RaisedAt, KeepAt, KeepsAt, HandlerBy, NamedAt, EventAt, HandlersAt, handler_of, handler_rows}
use Rattle.uc_code.proofs.Stable.{accepts_stable, chooses_stable, clause_stable, else_stable, none_stable, part, leaves_stable, nothing_stable, one_stable, risk_stable, poll_stable, turns_stable, whole_stable, guarded_stable, handled_stable, apart_stable, elements_stable, scope_stable, behind_part_stable}
use Rattle.uc_code.proofs.Putting.{clean_stable, done_stable}
use Rattle.uc_lower_expr.proofs.Settled.{both, fork, expr_stable}
use Rattle.uc_lower_stmt.specs.Objects.{FillCode}
use Rattle.uc_lower_stmt.proofs.Filling.{built_stable}
use Rattle.uc_lower_stmt.specs.Pieces.{ItemsCode, ValuesCode, TogetherCode, TargetsCode, StartCode, VariablesCode, PiecesCode}

pub value_stable : (line : ℕ) (ms : List CodeMark) (i : Item) → Stable (λ code. ValueAt code line ms i)
value_stable line ms (Show form e) = expr_stable line ms e
value_stable line ms (ShowText k) = nothing_stable

pub items_stable : (line : ℕ) (ms : List CodeMark) (is : List Item) → Stable (ItemsCode line ms is)
items_stable line ms [] = nothing_stable
items_stable line ms (i ∷ is) = both (value_stable line ms i) (both (one_stable (item_op i) line) (items_stable line ms is))

pub values_stable : (line : ℕ) (ms : List CodeMark) (is : List Item) → Stable (ValuesCode line ms is)
values_stable line ms [] = nothing_stable
values_stable line ms (i ∷ is) = both (value_stable line ms i) (values_stable line ms is)

pub pieces_stable : (line : ℕ) (is : List Item) → Stable (λ code. PiecesAt code line is)
pieces_stable line [] = nothing_stable
pieces_stable line (i ∷ is) = both (pieces_stable line is) (one_stable (item_op i) line)

pub ops_stable : (line : ℕ) (os : List Op) → Stable (PiecesCode line os)
ops_stable line [] = nothing_stable
ops_stable line (o ∷ os) = both (ops_stable line os) (one_stable o line)

together_stable : (line : ℕ) (ms : List CodeMark) (is : List Item) → Stable (TogetherCode line ms is)
together_stable line ms is = both (values_stable line ms is) (both (one_stable op.Hold line) (both (pieces_stable line is) (one_stable op.Flush line)))

pub targets_stable : (line : ℕ) (ms : List CodeMark) (ts : List Target) → Stable (TargetsCode line ms ts)
targets_stable line ms [] = nothing_stable
targets_stable line ms (t ∷ ts) = both (expr_stable line ms t.place) (both (one_stable (op.Read t.form) line) (both (one_stable op.Store line) (targets_stable line ms ts)))

pub start_stable : (line : ℕ) (ms : List CodeMark) (cell : ℕ) (value : Option Expr) → Stable (StartCode line ms cell value)
start_stable line ms cell None = nothing_stable
start_stable line ms cell (Some e) = both (one_stable (op.Local cell) line) (both (expr_stable line ms e) (one_stable op.Store line))

pub variables_stable : (line : ℕ) (ms : List CodeMark) (ds : List Declared) → Stable (VariablesCode line ms ds)
variables_stable line ms [] = nothing_stable
variables_stable line ms (d ∷ ds) = both (one_stable (op.Clear d.cell d.cells) line) (both (start_stable line ms d.cell d.value) (variables_stable line ms ds))

-- ways out

any_stable : (o : Op) → Stable (λ code. Any code o)
any_stable o = record {
  rises = λ code a z h. (one_stable o h.line).rises code a z h.one;
  moves = λ old new a z s h. record { line = h.line; one = (one_stable o h.line).moves old new a z s h.one };
}

pub exit_stable : (w : Way) (ms : List CodeMark) → Stable (λ code. ExitAt code w ms)
exit_stable ToBreak [] = one_stable op.Return 0
exit_stable ToContinue [] = one_stable op.Return 0
exit_stable ToReturn [] = one_stable op.ReturnValue 0
exit_stable ToEnd [] = one_stable op.ReturnNone 0
exit_stable ToBreak (mark.Body routine ∷ ms) = one_stable op.Return 0
exit_stable ToContinue (mark.Body routine ∷ ms) = one_stable op.Return 0
exit_stable ToReturn (mark.Body routine ∷ ms) = one_stable op.ReturnValue 0
exit_stable ToEnd (mark.Body routine ∷ ms) = one_stable op.ReturnNone 0
exit_stable ToBreak (mark.Finish main routine line row ∷ ms) = one_stable (main_end main) line
exit_stable ToContinue (mark.Finish main routine line row ∷ ms) = one_stable (main_end main) line
exit_stable ToReturn (mark.Finish main routine line row ∷ ms) = one_stable (main_end main) line
exit_stable ToEnd (mark.Finish main routine line row ∷ ms) = one_stable (main_end main) line
exit_stable ToBreak (mark.Loop leave again ∷ ms) = any_stable (op.Jump leave)
exit_stable ToContinue (mark.Loop leave again ∷ ms) = any_stable (op.Jump again)
exit_stable ToReturn (mark.Loop leave again ∷ ms) = exit_stable ToReturn ms
exit_stable ToEnd (mark.Loop leave again ∷ ms) = exit_stable ToEnd ms
exit_stable ToBreak (mark.Whole leave row ∷ ms) = any_stable (op.Jump leave)
exit_stable ToContinue (mark.Whole leave row ∷ ms) = any_stable (op.Jump leave)
exit_stable ToReturn (mark.Whole leave row ∷ ms) = any_stable (op.Jump leave)
exit_stable ToEnd (mark.Whole leave row ∷ ms) = any_stable (op.Jump leave)
exit_stable ToBreak (mark.Guard row ∷ ms) = exit_stable ToBreak ms
exit_stable ToContinue (mark.Guard row ∷ ms) = exit_stable ToContinue ms
exit_stable ToReturn (mark.Guard row ∷ ms) = exit_stable ToReturn ms
exit_stable ToEnd (mark.Guard row ∷ ms) = exit_stable ToEnd ms
exit_stable ToBreak (mark.Clean what line row ∷ ms) = both (clean_stable line what ms) (exit_stable ToBreak ms)
exit_stable ToContinue (mark.Clean what line row ∷ ms) = both (clean_stable line what ms) (exit_stable ToContinue ms)
exit_stable ToReturn (mark.Clean what line row ∷ ms) = both (clean_stable line what ms) (exit_stable ToReturn ms)
exit_stable ToEnd (mark.Clean what line row ∷ ms) = both (clean_stable line what ms) (exit_stable ToEnd ms)
exit_stable ToBreak (mark.Part row ∷ ms) = exit_stable ToBreak ms
exit_stable ToContinue (mark.Part row ∷ ms) = exit_stable ToContinue ms
exit_stable ToReturn (mark.Part row ∷ ms) = exit_stable ToReturn ms
exit_stable ToEnd (mark.Part row ∷ ms) = exit_stable ToEnd ms
exit_stable ToBreak (mark.Elements row ∷ ms) = exit_stable ToBreak ms
exit_stable ToContinue (mark.Elements row ∷ ms) = exit_stable ToContinue ms
exit_stable ToReturn (mark.Elements row ∷ ms) = exit_stable ToReturn ms
exit_stable ToEnd (mark.Elements row ∷ ms) = exit_stable ToEnd ms
exit_stable ToBreak (mark.Outward below row ∷ ms) = one_stable op.Return 0
exit_stable ToContinue (mark.Outward below row ∷ ms) = one_stable op.Return 0
exit_stable ToReturn (mark.Outward below row ∷ ms) = one_stable op.ReturnValue 0
exit_stable ToEnd (mark.Outward below row ∷ ms) = one_stable op.ReturnNone 0

pub step_stable : (line : ℕ) (ms : List CodeMark) (step : Option Expr) → Stable (λ code. StepAt code line ms step)
step_stable line ms None = nothing_stable
step_stable line ms (Some e) = both (expr_stable line ms e) (one_stable op.Discard line)

-- objects

fill_code_stable : (line : ℕ) (ms : List CodeMark) (n : ℕ) (b d : ObjectCall) → Stable (FillCode line ms b d n)
fill_code_stable line ms n b d =
    elements_stable line ms 0 n (op.Fill n) op.Sweep (λ code ns. CallBuilt code line b ns) (λ code ns. CallDone code line d ns) (λ ns. built_stable line b ns) (λ ns. done_stable line d ns)

filled_stable : (line : ℕ) (ms : List CodeMark) (n : ℕ) (b d : Expr) → Stable (λ code. FilledAt code line ms n b d)
filled_stable line ms n b d = record {
  rises = λ code a z h. (fill_code_stable line ms n h.builder h.destroyer).rises code a z h.filled;
  moves = λ old new a z s h. record { builder = h.builder; destroyer = h.destroyer; builds = h.builds; destroys = h.destroys; filled = (fill_code_stable line ms n h.builder h.destroyer).moves old new a z s h.filled };
}

arrives_stable : (line : ℕ) (ms : List CodeMark) → Stable (λ code. ArrivesAt code line ms)
arrives_stable line ms = record {
  rises = λ code a z h.
      let k = (both (leaves_stable ms line) (risk_stable ms op.Unwind line)).rises code (a + 1) h.arrived h.unwinds in
      let l = (both (leaves_stable ms line) (exit_stable ToReturn ms)).rises code h.arrived z h.returns in
      omega arith;
  moves = λ old new a z s h.
      let k = (both (leaves_stable ms line) (risk_stable ms op.Unwind line)).rises old (a + 1) h.arrived h.unwinds in
      let l = (both (leaves_stable ms line) (exit_stable ToReturn ms)).rises old h.arrived z h.returns in
      record {
        arrived = h.arrived;
        arrives = s.same a (op.Arrive h.arrived) line (omega arith) (omega arith) h.arrives;
        unwinds = (both (leaves_stable ms line) (risk_stable ms op.Unwind line)).moves old new (a + 1) h.arrived (part old new a z (a + 1) h.arrived (omega arith) (omega arith) s) h.unwinds;
        returns = (both (leaves_stable ms line) (exit_stable ToReturn ms)).moves old new h.arrived z (part old new a z h.arrived z (omega arith) (omega arith) s) h.returns;
      };
}

pub pad_stable : (line : ℕ) (what : Cleaning) (ms : List CodeMark) → Stable (λ code. PadAt code line what ms)
pad_stable line (cleaning.Call what) ms = both (clean_stable line (cleaning.Call what) ms) (risk_stable ms op.Unwind line)
pad_stable line cleaning.TakeDown ms = both (clean_stable line cleaning.TakeDown ms) (risk_stable ms op.Unwind line)
pad_stable line cleaning.Forget ms = both (clean_stable line cleaning.Forget ms) (risk_stable ms op.Unwind line)
pad_stable line cleaning.Leave ms = arrives_stable line ms
pad_stable line cleaning.End ms = both (clean_stable line cleaning.End ms) (risk_stable ms op.Unwind line)
pad_stable line (cleaning.Free main) ms = both (one_stable op.GiveUp line) (risk_stable ms op.Unwind line)
pad_stable line (cleaning.Restore cell) ms = both (clean_stable line (cleaning.Restore cell) ms) (risk_stable ms op.Unwind line)

module _ (line : ℕ) (ms : List CodeMark) (c : CleanUp) (B : Laid → List CodeMark → ℕ → ℕ → Type 0) (b : (ns : List CodeMark) → Stable (λ code. B code ns)) where
  pub scoped_stable : Stable (λ code. ScopedAt code line ms c (B code))
  scoped_stable = record {
    rises = λ code a z h. (scope_stable line ms (λ r. mark.Clean h.what line r) (λ k. CleanAt k line h.what ms) (λ k. PadAt k line h.what ms) B (clean_stable line h.what ms) (pad_stable line h.what ms) b).rises code a z h.scope;
    moves = λ old new a z s h. record { what = h.what; cleans = h.cleans; scope = (scope_stable line ms (λ r. mark.Clean h.what line r) (λ k. CleanAt k line h.what ms) (λ k. PadAt k line h.what ms) B (clean_stable line h.what ms) (pad_stable line h.what ms) b).moves old new a z s h.scope };
  }

  pub parted_stable : Stable (λ code. BuiltAt code line ms c (B code))
  parted_stable = record {
    rises = λ code a z h. (behind_part_stable line ms (λ r. mark.Part r) (λ k. CleanAt k line h.what ms) (λ k. CleanAt k line h.what ms) B (clean_stable line h.what ms) (clean_stable line h.what ms) b).rises code a z h.part;
    moves = λ old new a z s h. record { what = h.what; cleans = h.cleans; part = (behind_part_stable line ms (λ r. mark.Part r) (λ k. CleanAt k line h.what ms) (λ k. CleanAt k line h.what ms) B (clean_stable line h.what ms) (clean_stable line h.what ms) b).moves old new a z s h.part };
  }

-- events

pub raised_stable : (line : ℕ) (ms : List CodeMark) (r : Raised) → Stable (λ code. RaisedAt code line ms r)
raised_stable line ms (Plainly n) = both (one_stable (op.Push (pos n)) line) (both (one_stable (op.Push (pos 0)) line) (one_stable (op.Push (pos 0)) line))
raised_stable line ms (BuildsAt n k e) =
    both (one_stable (op.Clear k EVENT_FIELDS) line) (both (expr_stable line ms e) (both (one_stable op.Discard line) (both (one_stable (op.Push (pos n)) line) (both (one_stable (op.Via k) line) (one_stable (op.Via (k + 1)) line)))))
raised_stable line ms (AgainFrom k) = both (one_stable (op.Via k) line) (both (one_stable (op.Via (k + 1)) line) (one_stable (op.Via (k + 2)) line))

keep_stable : (line k : ℕ) → Stable (λ code. KeepAt code line k)
keep_stable line k = both (one_stable (op.Set k) line) (one_stable op.Discard line)

pub keeps_stable : (line k : ℕ) → Stable (λ code. KeepsAt code line k)
keeps_stable line k = both (keep_stable line (k + 2)) (both (keep_stable line (k + 1)) (keep_stable line k))

pub handler_stable : (resumes : Bool) (ms : List CodeMark) (exit line : ℕ) (B : Laid → List CodeMark → ℕ → ℕ → Type 0) → ((ns : List CodeMark) → Stable (λ code. B code ns)) → Stable (λ code. HandlerBy code resumes ms exit line (B code))
handler_stable false ms exit line B b = both (b ms) (one_stable (op.Jump exit) line)
handler_stable true ms exit line B b = apart_stable ms B b

pub named_stable : (event : Option ℕ) (B : Laid → ℕ → ℕ → Type 0) → Stable B → Stable (λ code. NamedAt code event (B code))
named_stable event B b = record {
  rises = λ code a z h. b.rises code a z h.handler;
  moves = λ old new a z s h. record { named = h.named; handler = b.moves old new a z s h.handler };
}

mutual
  pub stmt_stable : (ms : List CodeMark) (s : Stmt) → Stable (λ code. StmtAt code ms s)
  stmt_stable ms (Skip line) = nothing_stable
  stmt_stable ms (Block line body) = stmts_stable ms line body
  stmt_stable ms (Whole line body) = whole_stable line (λ code ns. StmtsAt code ns line body) (λ ns. stmts_stable ns line body) ms
  stmt_stable ms (Evaluate line e) = both (expr_stable line ms e) (one_stable op.Discard line)
  stmt_stable ms (Declare line ds) = variables_stable line ms ds
  stmt_stable ms (Print line is) = items_stable line ms is
  stmt_stable ms (PrintTogether line is) = together_stable line ms is
  stmt_stable ms (Read line ts) = targets_stable line ms ts
  stmt_stable ms (If line test chosen other) = both (expr_stable line ms test) (fork line (stmt_stable ms chosen) (stmt_stable ms other))
  stmt_stable ms (Loop line order test step body) =
      turns_stable line order (λ code. ExprAt code line ms test) (λ code. StepAt code line ms step) (λ code m. StmtAt code (m ∷ ms) body) (expr_stable line ms test) (step_stable line ms step) (λ m. stmt_stable (m ∷ ms) body)
  stmt_stable ms (Break line) = exit_stable ToBreak ms
  stmt_stable ms (Continue line) = exit_stable ToContinue ms
  stmt_stable ms (Return line None) = exit_stable ToEnd ms
  stmt_stable ms (Return line (Some e)) = both (expr_stable line ms e) (exit_stable ToReturn ms)
  stmt_stable ms (Owes line) = one_stable op.NoReturn line
  stmt_stable ms (Fill line n b d) = filled_stable line ms n b d
  stmt_stable ms (OfEvents s) = event_stable ms s
  stmt_stable ms (OfTasks s) = task_stable ms s

  pub stmts_stable : (ms : List CodeMark) (line : ℕ) (ss : Stmts) → Stable (λ code. StmtsAt code ms line ss)
  stmts_stable ms line Nil = nothing_stable
  stmts_stable ms line (Then s ss) = both (stmt_stable ms s) (stmts_stable ms line ss)
  stmts_stable ms line (Scoped c ss) = scoped_stable line ms c (λ code ns. StmtsAt code ns line ss) (λ ns. stmts_stable ns line ss)
  stmts_stable ms line (Built c ss) = parted_stable line ms c (λ code ns. StmtsAt code ns line ss) (λ ns. stmts_stable ns line ss)

  guards_stable : (line : ℕ) (ms : List CodeMark) (cs : Clauses) → Stable (λ code. GuardsAt code ms line cs)
  guards_stable line ms NoClauses = nothing_stable
  guards_stable line ms (Otherwise b) = nothing_stable
  guards_stable line ms (MoreClauses guard b cs) = both (expr_stable line ms guard) (guards_stable line ms cs)

  task_stable : (ms : List CodeMark) (s : TaskStmt) → Stable (λ code. TaskAt code ms s)
  task_stable ms (Resume line) = both (one_stable op.Resume line) (both (risk_stable ms op.Land line) (poll_stable ms line))
  task_stable ms (Suspend line) = both (one_stable op.Suspend line) (both (risk_stable ms op.Land line) (poll_stable ms line))
  task_stable ms (SetUp r) = one_stable (op.Coroutine r) 0
  task_stable ms Enliven = one_stable op.Live 0
  task_stable ms TakeDown = one_stable op.UnwindCoroutine 0
  task_stable ms (Yield line) = both (one_stable op.Yield line) (poll_stable ms line)
  task_stable ms (Migrate line e) = both (expr_stable line ms e) (one_stable op.Migrate line)
  task_stable ms (Accept line site cs) =
      both (guards_stable line ms cs) (both (accepts_stable ms site (clause_count cs) line)
      (chooses_stable line (clause_count cs) (λ code o ps end. BranchesAt code ms line cs o ps end) (λ o ps end. branches_stable ms line cs o ps end)))

  pub branches_stable : (ms : List CodeMark) (line : ℕ) (cs : Clauses) (o : ℕ) (ps : List ℕ) (end : ℕ) → Stable (λ code. BranchesAt code ms line cs o ps end)
  branches_stable ms line NoClauses o ps end = none_stable o ps end
  branches_stable ms line (Otherwise b) o ps end = else_stable o ps (λ code. StmtAt code ms b) (stmt_stable ms b)
  branches_stable ms line (MoreClauses guard b cs) o ps end =
      clause_stable line ps end (λ code. StmtAt code ms b) (λ code rest. BranchesAt code ms line cs o rest end) (stmt_stable ms b) (λ rest. branches_stable ms line cs o rest end)

  pub event_stable : (ms : List CodeMark) (s : EventStmt) → Stable (λ code. EventAt code ms s)
  event_stable ms (Throw line r) = both (raised_stable line ms r) (risk_stable ms op.Throw line)
  event_stable ms (Raise line r) = both (raised_stable line ms r) (both (risk_stable ms op.Raise line) (one_stable op.Discard line))
  event_stable ms (Try line body hs) =
      guarded_stable line (handler_rows hs) ms (λ code ns. StmtsAt code ns line body) (λ code first exit. HandlersAt code ms first exit hs) (λ ns. stmts_stable ns line body) (λ first exit. handlers_stable ms first exit hs)
  event_stable ms (RaiseAt line r e) = both (raised_stable line ms r) (both (expr_stable line ms e) (one_stable op.RaiseAt line))
  event_stable ms (Enable line events cell s) =
      scoped_stable line ms (Restores cell) (λ code ns. Both (One code (op.Enable events cell) line) (Both (PollAt code ns line) (StmtAt code ns s))) (λ ns. both (one_stable (op.Enable events cell) line) (both (poll_stable ns line) (stmt_stable ns s)))
  event_stable ms (Disable line events cell s) =
      scoped_stable line ms (Restores cell) (λ code ns. Both (One code (op.Disable events cell) line) (StmtAt code ns s)) (λ ns. both (one_stable (op.Disable events cell) line) (stmt_stable ns s))

  pub handlers_stable : (ms : List CodeMark) (first exit : ℕ) (hs : Handlers) → Stable (λ code. HandlersAt code ms first exit hs)
  handlers_stable ms first exit NoHandlers = nothing_stable
  handlers_stable ms first exit (MoreHandlers resumes event cell line body rest) =
      both (named_stable event (λ code. HandledAt code (first + handler_rows rest) (handler_of resumes event (length (handlers ms))) (Both (KeepsAt code line cell) (HandlerBy code resumes ms exit line (λ ns. StmtsAt code ns line body))))
      (handled_stable (first + handler_rows rest) (handler_of resumes event (length (handlers ms))) (λ code. Both (KeepsAt code line cell) (HandlerBy code resumes ms exit line (λ ns. StmtsAt code ns line body)))
      (both (keeps_stable line cell) (handler_stable resumes ms exit line (λ code ns. StmtsAt code ns line body) (λ ns. stmts_stable ns line body)))))
      (handlers_stable ms first exit rest)
