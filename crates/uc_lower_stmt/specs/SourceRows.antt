-- How many handler rows the code of the resolved tree has.
use Rattle.std.specs.Prelude.{ℕ, suc, ◌+◌, List, [], ◌∷◌, Bool, true, false}
use Rattle.uc_tree.specs.Source.{Stmt, Skip, Block, Whole, Evaluate, Declare, Print, PrintTogether, Read, If, Loop, Break, Continue, Return, Owes, Fill, OfEvents, OfTasks, TaskStmt, Resume, Suspend, SetUp, Enliven, TakeDown, Yield, Migrate, Accept, EventStmt, Throw, Raise, Try, RaiseAt, Enable, Disable, Handlers, NoHandlers, MoreHandlers, Clauses, NoClauses, Otherwise, MoreClauses, CleanUp, Destroys, DestroysAll, Unwinds, Forgets, Leaves, Ends, Frees, Restores, Stmts, Nil, Then, Scoped, Built, Purpose, TaskMain, CoroutineMain, Procedure, Function, Builder, Routine, Source}
use Rattle.uc_code.specs.declared.rows.CodeMark.{CodeMark}
use Rattle.uc_code.specs.Lowered.{handler_rows}
use Rattle.uc_code.specs.RowCounts.{loop_rows, return_rows}

-- a clean-up has one for its turns over the elements of an array
abbrev pub clean_rows : CleanUp → ℕ
clean_rows (Destroys e) = 0
clean_rows (DestroysAll n e) = 1
clean_rows Unwinds = 0
clean_rows Forgets = 0
clean_rows Leaves = 0
clean_rows Ends = 0
clean_rows (Frees main) = 0
clean_rows (Restores cell) = 0

-- In all that follows `loop` and `out` are how many rows the ways out have on which statements leave what stands round them: to the end of
-- the innermost loop, and to that of the routine.

-- where a scope is unwound: it is cleaned up there too; and a mutex call may return there
abbrev pub pad_rows : ℕ → CleanUp → ℕ
pad_rows out (Destroys e) = 0
pad_rows out (DestroysAll n e) = 1
pad_rows out Unwinds = 0
pad_rows out Forgets = 0
pad_rows out Leaves = out
pad_rows out Ends = 0
pad_rows out (Frees main) = 0
pad_rows out (Restores cell) = 0

-- a scope has its own row, and those of its end; a way out that leaves it cleans it up under a row of its own

abbrev pub scope_rows : ℕ → CleanUp → ℕ
scope_rows out c = suc (clean_rows c + pad_rows out c)

abbrev pub past_rows : CleanUp → ℕ → ℕ
past_rows c way = suc (clean_rows c + way)

-- a guarded block has a row for each handler. Nothing stands round the statements of a block that is left as a whole, nor round those of a
-- handler of resumptions, but a row of their own
abbrev mutual
  pub stmt_rows : ℕ → ℕ → Stmt → ℕ
  stmt_rows loop out (Skip line) = 0
  stmt_rows loop out (Block line body) = stmts_rows loop out body
  stmt_rows loop out (Whole line body) = suc (stmts_rows 0 0 body)
  stmt_rows loop out (Evaluate line e) = 0
  stmt_rows loop out (Declare line ds) = 0
  stmt_rows loop out (Print line is) = 0
  stmt_rows loop out (PrintTogether line is) = 0
  stmt_rows loop out (Read line ts) = 0
  stmt_rows loop out (If line test chosen other) = stmt_rows loop out chosen + stmt_rows loop out other
  stmt_rows loop out (Loop line order test step body) = stmt_rows 0 out body
  stmt_rows loop out (Break line) = loop
  stmt_rows loop out (Continue line) = loop
  stmt_rows loop out (Return line value) = out
  stmt_rows loop out (Owes line) = 0
  stmt_rows loop out (Fill line n builds destroys) = 1
  stmt_rows loop out (OfEvents s) = event_rows loop out s
  stmt_rows loop out (OfTasks s) = task_rows loop out s

  pub task_rows : ℕ → ℕ → TaskStmt → ℕ
  task_rows loop out (Resume line) = 0
  task_rows loop out (Suspend line) = 0
  task_rows loop out (SetUp main) = 0
  task_rows loop out Enliven = 0
  task_rows loop out TakeDown = 0
  task_rows loop out (Yield line) = 0
  task_rows loop out (Migrate line e) = 0
  task_rows loop out (Accept line site cs) = clauses_rows loop out cs

  pub clauses_rows : ℕ → ℕ → Clauses → ℕ
  clauses_rows loop out NoClauses = 0
  clauses_rows loop out (Otherwise body) = stmt_rows loop out body
  clauses_rows loop out (MoreClauses guard body cs) = stmt_rows loop out body + clauses_rows loop out cs

  pub event_rows : ℕ → ℕ → EventStmt → ℕ
  event_rows loop out (Throw line r) = 0
  event_rows loop out (Raise line r) = 0
  event_rows loop out (Try line body hs) = handler_rows hs + stmts_rows loop out body + handlers_rows loop out hs
  event_rows loop out (RaiseAt line r e) = 0
  event_rows loop out (Enable line events cell s) = stmt_rows (past_rows (Restores cell) loop) (past_rows (Restores cell) out) s + scope_rows out (Restores cell)
  event_rows loop out (Disable line events cell s) = stmt_rows (past_rows (Restores cell) loop) (past_rows (Restores cell) out) s + scope_rows out (Restores cell)

  -- the bodies of handlers
  pub handlers_rows : ℕ → ℕ → Handlers → ℕ
  handlers_rows loop out NoHandlers = 0
  handlers_rows loop out (MoreHandlers false event cell line body rest) = stmts_rows loop out body + handlers_rows loop out rest
  handlers_rows loop out (MoreHandlers true event cell line body rest) = suc (stmts_rows 0 0 body) + handlers_rows loop out rest

  pub stmts_rows : ℕ → ℕ → Stmts → ℕ
  stmts_rows loop out Nil = 0
  stmts_rows loop out (Then s ss) = stmt_rows loop out s + stmts_rows loop out ss
  stmts_rows loop out (Scoped c ss) = stmts_rows (past_rows c loop) (past_rows c out) ss + scope_rows out c
  stmts_rows loop out (Built c ss) = stmts_rows loop out ss + suc (clean_rows c)

-- the body of one handler, by whether it takes resumptions
abbrev pub handled_body_rows : ℕ → ℕ → Bool → Stmts → ℕ
handled_body_rows loop out false body = stmts_rows loop out body
handled_body_rows loop out true body = suc (stmts_rows 0 0 body)

-- the same under marks

abbrev pub stmt_rows_under : List CodeMark → Stmt → ℕ
stmt_rows_under ms s = stmt_rows (loop_rows ms) (return_rows ms) s

abbrev pub stmts_rows_under : List CodeMark → Stmts → ℕ
stmts_rows_under ms ss = stmts_rows (loop_rows ms) (return_rows ms) ss

abbrev pub task_rows_under : List CodeMark → TaskStmt → ℕ
task_rows_under ms s = task_rows (loop_rows ms) (return_rows ms) s

abbrev pub clauses_rows_under : List CodeMark → Clauses → ℕ
clauses_rows_under ms cs = clauses_rows (loop_rows ms) (return_rows ms) cs

abbrev pub event_rows_under : List CodeMark → EventStmt → ℕ
event_rows_under ms s = event_rows (loop_rows ms) (return_rows ms) s

abbrev pub handlers_rows_under : List CodeMark → Handlers → ℕ
handlers_rows_under ms hs = handlers_rows (loop_rows ms) (return_rows ms) hs

abbrev pub handled_rows_under : List CodeMark → Bool → Stmts → ℕ
handled_rows_under ms resumes body = handled_body_rows (loop_rows ms) (return_rows ms) resumes body

-- the statements of a routine; a main has a row of its own
abbrev pub body_rows : Purpose → Stmts → ℕ
body_rows TaskMain ss = suc (stmts_rows 0 0 ss)
body_rows CoroutineMain ss = suc (stmts_rows 0 0 ss)
body_rows Procedure ss = stmts_rows 0 0 ss
body_rows Function ss = stmts_rows 0 0 ss
body_rows Builder ss = stmts_rows 0 0 ss

abbrev pub routine_rows : Routine → ℕ
routine_rows r = body_rows r.purpose r.body

abbrev pub routines_rows : List Routine → ℕ
routines_rows [] = 0
routines_rows (r ∷ rs) = routine_rows r + routines_rows rs

-- of the whole program
abbrev pub source_rows : Source → ℕ
source_rows s = routines_rows s.routines
