-- What the ways out of scopes count: for every `return`, `break` and `continue` the declarators of its routine in scope
-- there, and the `_Enable` and `_Disable` statements that it stands in, since each way out restores their events. The second
-- argument is how many are round the piece; parameters and handlers' parameters are none.
use Rattle.std.specs.Prelude.{ℕ, ◌+◌, length}
use Rattle.uc_tree.specs.Statements.{ForStart, NoFor, ForDeclare, ForEvaluate, Stmt, Block, Empty, Evaluate, Declare, If, While, Do, For, Break, Continue, Return, Try, Throw, Raise, RaiseAt, Enable, Disable, Accept, Print, PrintTogether, Read, Resume, Suspend, Yield, Migrate, Stmts, NoStmts, MoreStmts, MaybeStmt, NoStmt, OneStmt, Handler, Handles, Handlers, NoHandlers, MoreHandlers, Clause, Accepts, Clauses, NoClauses, MoreClauses}

-- how many declarators a statement brings into the scope that it stands in
abbrev pub declares : Stmt → ℕ
declares (Declare pos base declarators) = length declarators
declares _ = 0

-- how many a `for` brings into its own
abbrev pub for_declares : ForStart → ℕ
for_declares NoFor = 0
for_declares (ForDeclare pos base declarators) = length declarators
for_declares (ForEvaluate value) = 0

-- a declaration that is itself the statement of an `if`, a loop or a clause has a scope of its own
abbrev mutual
  pub exits : Stmt → ℕ → ℕ
  exits (Block pos body) k = exits_all body k
  exits (Empty pos) k = 0
  exits (Evaluate pos value) k = 0
  exits (Declare pos base declarators) k = 0
  exits (If pos test chosen other) k = exits chosen k + exits_maybe other k
  exits (While pos test body) k = exits body k
  exits (Do pos body test) k = exits body k
  exits (For pos start test step body) k = exits body (k + for_declares start)
  exits (Break pos) k = k
  exits (Continue pos) k = k
  exits (Return pos value) k = k
  exits (Try pos brace body hs) k = exits_all body k + exits_handlers hs k
  exits (Throw pos raised) k = 0
  exits (Raise pos raised) k = 0
  exits (RaiseAt pos raised target) k = 0
  exits (Enable pos events body) k = exits body (k + 1)
  exits (Disable pos events body) k = exits body (k + 1)
  exits (Accept pos cs other) k = exits_clauses cs k + exits_maybe other k
  exits (Print pos items) k = 0
  exits (PrintTogether pos items) k = 0
  exits (Read pos places) k = 0
  exits (Resume pos) k = 0
  exits (Suspend pos) k = 0
  exits (Yield pos) k = 0
  exits (Migrate pos cluster) k = 0

  -- a declarator is in scope from its statement's end to that of the block
  pub exits_all : Stmts → ℕ → ℕ
  exits_all NoStmts k = 0
  exits_all (MoreStmts first rest) k = exits first k + exits_all rest (k + declares first)

  pub exits_maybe : MaybeStmt → ℕ → ℕ
  exits_maybe NoStmt k = 0
  exits_maybe (OneStmt body) k = exits body k

  pub exits_handler : Handler → ℕ → ℕ
  exits_handler (Handles pos kind event param brace body) k = exits_all body k

  pub exits_handlers : Handlers → ℕ → ℕ
  exits_handlers NoHandlers k = 0
  exits_handlers (MoreHandlers first rest) k = exits_handler first k + exits_handlers rest k

  pub exits_clause : Clause → ℕ → ℕ
  exits_clause (Accepts pos guard members body) k = exits body k

  pub exits_clauses : Clauses → ℕ → ℕ
  exits_clauses NoClauses k = 0
  exits_clauses (MoreClauses first rest) k = exits_clause first k + exits_clauses rest k
