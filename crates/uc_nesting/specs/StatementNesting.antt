-- How deep the parts of a statement stand. A statement is a level of its own, and so is the block round it.
use Rattle.std.specs.Prelude.{ℕ, ◌+◌, max, List, [], ◌∷◌, Option, Some, None}
use Rattle.uc_tree.specs.Expressions.{Expr, Exprs, NoExprs, MoreExprs}
use Rattle.uc_tree.specs.Statements.{Start, NoStart, StartValue, StartArgs, Declarator, Raised, OutItem, Endl, Literal, Printed, ForStart, NoFor, ForDeclare, ForEvaluate, Stmt, Block, Empty, Evaluate, Declare, If, While, Do, For, Break, Continue, Return, Try, Throw, Raise, RaiseAt, Enable, Disable, Accept, Print, PrintTogether, Read, Resume, Suspend, Yield, Migrate, Stmts, NoStmts, MoreStmts, MaybeStmt, NoStmt, OneStmt, Handler, Handles, Handlers, NoHandlers, MoreHandlers, Clause, Accepts, Clauses, NoClauses, MoreClauses}
use Rattle.uc_nesting.specs.ExpressionNesting.{postfix, sum, expr_nesting, args_nesting, nesting_at}

abbrev pub maybe_expr_nesting : Option Expr → ℕ
maybe_expr_nesting None = 0
maybe_expr_nesting (Some e) = expr_nesting e

-- in brackets
abbrev pub length_nesting : Option Expr → ℕ
length_nesting None = 0
length_nesting (Some e) = expr_nesting e + 1

abbrev pub start_nesting : Start → ℕ
start_nesting NoStart = 0
start_nesting (StartValue value) = expr_nesting value
start_nesting (StartArgs args) = args_nesting args

abbrev pub declarator_nesting : Declarator → ℕ
declarator_nesting d = max (length_nesting d.len) (start_nesting d.start)

abbrev pub declarators_nesting : List Declarator → ℕ
declarators_nesting [] = 0
declarators_nesting (d ∷ ds) = max (declarator_nesting d) (declarators_nesting ds)

abbrev pub raised_nesting : Raised → ℕ
raised_nesting r = args_nesting r.args

abbrev pub maybe_raised_nesting : Option Raised → ℕ
maybe_raised_nesting None = 0
maybe_raised_nesting (Some r) = raised_nesting r

abbrev pub out_item_nesting : OutItem → ℕ
out_item_nesting (Endl sign) = 0
out_item_nesting (Literal sign text) = 0
out_item_nesting (Printed sign value) = nesting_at sum value

abbrev pub out_items_nesting : List OutItem → ℕ
out_items_nesting [] = 0
out_items_nesting (o ∷ os) = max (out_item_nesting o) (out_items_nesting os)

abbrev pub for_start_nesting : ForStart → ℕ
for_start_nesting NoFor = 0
for_start_nesting (ForDeclare pos base declarators) = declarators_nesting declarators
for_start_nesting (ForEvaluate value) = expr_nesting value

-- what is read into
abbrev pub places_nesting : Exprs → ℕ
places_nesting NoExprs = 0
places_nesting (MoreExprs first rest) = max (nesting_at postfix first) (places_nesting rest)

abbrev mutual
  -- in the statement, itself not counted
  pub stmt_nesting : Stmt → ℕ
  stmt_nesting (Block pos body) = block_nesting body
  stmt_nesting (Empty pos) = 0
  stmt_nesting (Evaluate pos value) = expr_nesting value
  stmt_nesting (Declare pos base declarators) = declarators_nesting declarators
  stmt_nesting (If pos test chosen other) = max (expr_nesting test) (max (stmt_nesting chosen + 1) (maybe_stmt_nesting other))
  stmt_nesting (While pos test body) = max (expr_nesting test) (stmt_nesting body + 1)
  stmt_nesting (Do pos body test) = max (stmt_nesting body + 1) (expr_nesting test)
  stmt_nesting (For pos start test step body) = max (for_start_nesting start) (max (maybe_expr_nesting test) (max (maybe_expr_nesting step) (stmt_nesting body + 1)))
  stmt_nesting (Break pos) = 0
  stmt_nesting (Continue pos) = 0
  stmt_nesting (Return pos value) = maybe_expr_nesting value
  stmt_nesting (Try pos brace body hs) = max (block_nesting body) (handlers_nesting hs)
  stmt_nesting (Throw pos raised) = maybe_raised_nesting raised
  stmt_nesting (Raise pos raised) = maybe_raised_nesting raised
  stmt_nesting (RaiseAt pos raised target) = max (raised_nesting raised) (nesting_at postfix target)
  stmt_nesting (Enable pos events body) = stmt_nesting body + 1
  stmt_nesting (Disable pos events body) = stmt_nesting body + 1
  stmt_nesting (Accept pos cs other) = max (clauses_nesting cs) (maybe_stmt_nesting other)
  stmt_nesting (Print pos items) = out_items_nesting items
  stmt_nesting (PrintTogether pos items) = out_items_nesting items
  stmt_nesting (Read pos places) = places_nesting places
  stmt_nesting (Resume pos) = 0
  stmt_nesting (Suspend pos) = 0
  stmt_nesting (Yield pos) = 0
  stmt_nesting (Migrate pos cluster) = nesting_at postfix cluster

  -- between braces: the block and each of its statements
  pub block_nesting : Stmts → ℕ
  block_nesting NoStmts = 0
  block_nesting (MoreStmts first rest) = max (stmt_nesting first + 2) (block_nesting rest)

  pub maybe_stmt_nesting : MaybeStmt → ℕ
  maybe_stmt_nesting NoStmt = 0
  maybe_stmt_nesting (OneStmt body) = stmt_nesting body + 1

  pub handler_nesting : Handler → ℕ
  handler_nesting (Handles pos kind event param brace body) = block_nesting body

  pub handlers_nesting : Handlers → ℕ
  handlers_nesting NoHandlers = 0
  handlers_nesting (MoreHandlers first rest) = max (handler_nesting first) (handlers_nesting rest)

  pub clause_nesting : Clause → ℕ
  clause_nesting (Accepts pos guard members body) = max (maybe_expr_nesting guard) (stmt_nesting body + 1)

  pub clauses_nesting : Clauses → ℕ
  clauses_nesting NoClauses = 0
  clauses_nesting (MoreClauses first rest) = max (clause_nesting first) (clauses_nesting rest)
