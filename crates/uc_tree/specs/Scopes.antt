-- How many scopes the statements of a body open. The block of a routine's body is scope 0 of the routine, and the others follow
-- in textual order.
use Rattle.std.specs.Prelude.{ℕ, ◌+◌}
use Rattle.uc_tree.specs.Statements.{Stmt, Block, Empty, Evaluate, Declare, If, While, Do, For, Break, Continue, Return, Try, Throw, Raise, RaiseAt, Enable, Disable, Accept, Print, PrintTogether, Read, Resume, Suspend, Yield, Migrate, Stmts, NoStmts, MoreStmts, MaybeStmt, NoStmt, OneStmt, Handler, Handles, Handlers, NoHandlers, MoreHandlers, Clause, Accepts, Clauses, NoClauses, MoreClauses}

-- a declaration that is itself the statement of another has a scope of its own
abbrev pub alone_scopes : Stmt → ℕ
alone_scopes (Declare pos base ds) = 1
alone_scopes _ = 0

-- a block, a `for` with its declaration and its statement, and a handler with its parameter and its block are a scope each
abbrev mutual
  pub stmt_scopes : Stmt → ℕ
  stmt_scopes (Block pos body) = 1 + stmts_scopes body
  stmt_scopes (Empty pos) = 0
  stmt_scopes (Evaluate pos value) = 0
  stmt_scopes (Declare pos base ds) = 0
  stmt_scopes (If pos test chosen other) = alone_scopes chosen + stmt_scopes chosen + maybe_scopes other
  stmt_scopes (While pos test body) = alone_scopes body + stmt_scopes body
  stmt_scopes (Do pos body test) = alone_scopes body + stmt_scopes body
  stmt_scopes (For pos start test step body) = 1 + alone_scopes body + stmt_scopes body
  stmt_scopes (Break pos) = 0
  stmt_scopes (Continue pos) = 0
  stmt_scopes (Return pos value) = 0
  stmt_scopes (Try pos brace body hs) = 1 + stmts_scopes body + handlers_scopes hs
  stmt_scopes (Throw pos raised) = 0
  stmt_scopes (Raise pos raised) = 0
  stmt_scopes (RaiseAt pos raised target) = 0
  stmt_scopes (Enable pos events body) = alone_scopes body + stmt_scopes body
  stmt_scopes (Disable pos events body) = alone_scopes body + stmt_scopes body
  stmt_scopes (Accept pos cs other) = clauses_scopes cs + maybe_scopes other
  stmt_scopes (Print pos items) = 0
  stmt_scopes (PrintTogether pos items) = 0
  stmt_scopes (Read pos places) = 0
  stmt_scopes (Resume pos) = 0
  stmt_scopes (Suspend pos) = 0
  stmt_scopes (Yield pos) = 0
  stmt_scopes (Migrate pos cluster) = 0

  pub stmts_scopes : Stmts → ℕ
  stmts_scopes NoStmts = 0
  stmts_scopes (MoreStmts first rest) = stmt_scopes first + stmts_scopes rest

  pub maybe_scopes : MaybeStmt → ℕ
  maybe_scopes NoStmt = 0
  maybe_scopes (OneStmt body) = alone_scopes body + stmt_scopes body

  pub handler_scopes : Handler → ℕ
  handler_scopes (Handles pos kind event param brace body) = 1 + stmts_scopes body

  pub handlers_scopes : Handlers → ℕ
  handlers_scopes NoHandlers = 0
  handlers_scopes (MoreHandlers first rest) = handler_scopes first + handlers_scopes rest

  pub clause_scopes : Clause → ℕ
  clause_scopes (Accepts pos guard members body) = alone_scopes body + stmt_scopes body

  pub clauses_scopes : Clauses → ℕ
  clauses_scopes NoClauses = 0
  clauses_scopes (MoreClauses first rest) = clause_scopes first + clauses_scopes rest
