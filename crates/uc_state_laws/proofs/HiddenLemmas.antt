-- A statement has at most three hidden cells for each unit of its size.
use Rattle.std.proofs.Common.{◌≤◌, ◌*◌, Some, None, arith}
use Rattle.uc_tree.specs.Hidden.{hidden_in, hidden_in_all, hidden_in_maybe, hidden_in_handler, hidden_in_handlers, hidden_in_clause, hidden_in_clauses}
use Rattle.uc_tree.specs.Statements.{Stmt, Block, If, While, Do, For, Try, Throw, Raise, RaiseAt, Enable, Disable, Accept, Stmts, NoStmts, MoreStmts, MaybeStmt, NoStmt, OneStmt, Handler, Handles, Handlers, NoHandlers, MoreHandlers, Clause, Accepts, Clauses, NoClauses, MoreClauses}
use Rattle.uc_tree.specs.StatementSizes.{stmt_size, stmts_size, maybe_stmt_size, handler_size, handlers_size, clause_size, clauses_size}

mutual
  few_in : (t : Stmt) → hidden_in t ≤ 3 * stmt_size t
  few_in (Block pos body) = let h = few_in_all body in omega (arith, h)
  few_in (If pos test chosen other) = let h = few_in chosen in let k = few_in_maybe other in omega (arith, h, k)
  few_in (While pos test body) = let h = few_in body in omega (arith, h)
  few_in (Do pos body test) = let h = few_in body in omega (arith, h)
  few_in (For pos start test step body) = let h = few_in body in omega (arith, h)
  few_in (Try pos brace body hs) = let h = few_in_all body in let k = few_in_handlers hs in omega (arith, h, k)
  few_in (Throw pos None) = omega arith
  few_in (Throw pos (Some r)) = omega arith
  few_in (Raise pos None) = omega arith
  few_in (Raise pos (Some r)) = omega arith
  few_in (RaiseAt pos raised target) = omega arith
  few_in (Enable pos events body) = let h = few_in body in omega (arith, h)
  few_in (Disable pos events body) = let h = few_in body in omega (arith, h)
  few_in (Accept pos cs other) = let h = few_in_clauses cs in let k = few_in_maybe other in omega (arith, h, k)
  few_in t = omega arith

  pub few_in_all : (ts : Stmts) → hidden_in_all ts ≤ 3 * stmts_size ts
  few_in_all NoStmts = omega arith
  few_in_all (MoreStmts t ts) = let h = few_in t in let k = few_in_all ts in omega (arith, h, k)

  few_in_maybe : (m : MaybeStmt) → hidden_in_maybe m ≤ 3 * maybe_stmt_size m
  few_in_maybe NoStmt = omega arith
  few_in_maybe (OneStmt t) = few_in t

  few_in_handler : (x : Handler) → hidden_in_handler x ≤ 3 * handler_size x
  few_in_handler (Handles pos kind event param brace body) = let h = few_in_all body in omega (arith, h)

  few_in_handlers : (hs : Handlers) → hidden_in_handlers hs ≤ 3 * handlers_size hs
  few_in_handlers NoHandlers = omega arith
  few_in_handlers (MoreHandlers x hs) = let h = few_in_handler x in let k = few_in_handlers hs in omega (arith, h, k)

  few_in_clause : (c : Clause) → hidden_in_clause c ≤ 3 * clause_size c
  few_in_clause (Accepts pos guard members body) = let h = few_in body in omega (arith, h)

  few_in_clauses : (cs : Clauses) → hidden_in_clauses cs ≤ 3 * clauses_size cs
  few_in_clauses NoClauses = omega arith
  few_in_clauses (MoreClauses c cs) = let h = few_in_clause c in let k = few_in_clauses cs in omega (arith, h, k)
