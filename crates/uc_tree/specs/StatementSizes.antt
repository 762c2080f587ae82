-- How many declarators, statements, clauses, handlers, raised events, printed items and expressions a statement has.
use Rattle.std.specs.Prelude.{ℕ, ◌+◌, List, [], ◌∷◌, Option, Some, None}
use Rattle.uc_tree.specs.Expressions.{Expr}
use Rattle.uc_tree.specs.ExpressionSizes.{expr_size, exprs_size}
use Rattle.uc_tree.specs.Statements.{Start, NoStart, StartValue, StartArgs, Declarator, Raised, OutItem, Endl, Literal, Printed, ForStart, NoFor, ForDeclare, ForEvaluate, Stmt, Block, Empty, Evaluate, Declare, If, While, Do, For, Break, Continue, Return, Try, Throw, Raise, RaiseAt, Enable, Disable, Accept, Print, PrintTogether, Read, Resume, Suspend, Yield, Migrate, Stmts, NoStmts, MoreStmts, MaybeStmt, NoStmt, OneStmt, Handler, Handles, Handlers, NoHandlers, MoreHandlers, Clause, Accepts, Clauses, NoClauses, MoreClauses}

abbrev pub maybe_expr_size : Option Expr → ℕ
maybe_expr_size None = 0
maybe_expr_size (Some e) = expr_size e

abbrev pub start_size : Start → ℕ
start_size NoStart = 0
start_size (StartValue value) = expr_size value
start_size (StartArgs args) = exprs_size args

abbrev pub declarator_size : Declarator → ℕ
declarator_size d = 1 + maybe_expr_size d.len + start_size d.start

abbrev pub declarators_size : List Declarator → ℕ
declarators_size [] = 0
declarators_size (d ∷ ds) = declarator_size d + declarators_size ds

abbrev pub raised_size : Raised → ℕ
raised_size r = 1 + exprs_size r.args

abbrev pub maybe_raised_size : Option Raised → ℕ
maybe_raised_size None = 0
maybe_raised_size (Some r) = raised_size r

-- an item counts besides its expression
abbrev pub out_item_size : OutItem → ℕ
out_item_size (Endl sign) = 1
out_item_size (Literal sign text) = 1
out_item_size (Printed sign value) = 1 + expr_size value

abbrev pub out_items_size : List OutItem → ℕ
out_items_size [] = 0
out_items_size (o ∷ os) = out_item_size o + out_items_size os

-- the declaration in a `for` counts its declarators alone
abbrev pub for_start_size : ForStart → ℕ
for_start_size NoFor = 0
for_start_size (ForDeclare pos base declarators) = declarators_size declarators
for_start_size (ForEvaluate value) = expr_size value

-- a block that is the body of a `try` or a handler is not counted, but what is in it
abbrev mutual
  pub stmt_size : Stmt → ℕ
  stmt_size (Block pos body) = 1 + stmts_size body
  stmt_size (Empty pos) = 1
  stmt_size (Evaluate pos value) = 1 + expr_size value
  stmt_size (Declare pos base declarators) = 1 + declarators_size declarators
  stmt_size (If pos test chosen other) = 1 + expr_size test + stmt_size chosen + maybe_stmt_size other
  stmt_size (While pos test body) = 1 + expr_size test + stmt_size body
  stmt_size (Do pos body test) = 1 + stmt_size body + expr_size test
  stmt_size (For pos start test step body) = 1 + for_start_size start + maybe_expr_size test + maybe_expr_size step + stmt_size body
  stmt_size (Break pos) = 1
  stmt_size (Continue pos) = 1
  stmt_size (Return pos value) = 1 + maybe_expr_size value
  stmt_size (Try pos brace body hs) = 1 + stmts_size body + handlers_size hs
  stmt_size (Throw pos raised) = 1 + maybe_raised_size raised
  stmt_size (Raise pos raised) = 1 + maybe_raised_size raised
  stmt_size (RaiseAt pos raised target) = 1 + raised_size raised + expr_size target
  stmt_size (Enable pos events body) = 1 + stmt_size body
  stmt_size (Disable pos events body) = 1 + stmt_size body
  stmt_size (Accept pos cs other) = 1 + clauses_size cs + maybe_stmt_size other
  stmt_size (Print pos items) = 1 + out_items_size items
  stmt_size (PrintTogether pos items) = 1 + out_items_size items
  stmt_size (Read pos places) = 1 + exprs_size places
  stmt_size (Resume pos) = 1
  stmt_size (Suspend pos) = 1
  stmt_size (Yield pos) = 1
  stmt_size (Migrate pos cluster) = 1 + expr_size cluster

  pub stmts_size : Stmts → ℕ
  stmts_size NoStmts = 0
  stmts_size (MoreStmts first rest) = stmt_size first + stmts_size rest

  pub maybe_stmt_size : MaybeStmt → ℕ
  maybe_stmt_size NoStmt = 0
  maybe_stmt_size (OneStmt body) = stmt_size body

  pub handler_size : Handler → ℕ
  handler_size (Handles pos kind event param brace body) = 1 + stmts_size body

  pub handlers_size : Handlers → ℕ
  handlers_size NoHandlers = 0
  handlers_size (MoreHandlers first rest) = handler_size first + handlers_size rest

  pub clause_size : Clause → ℕ
  clause_size (Accepts pos guard members body) = 1 + maybe_expr_size guard + stmt_size body

  pub clauses_size : Clauses → ℕ
  clauses_size NoClauses = 0
  clauses_size (MoreClauses first rest) = clause_size first + clauses_size rest
