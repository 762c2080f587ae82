-- A body opens no more scopes than it has statements.
use Rattle.std.proofs.Common.{◌+◌, ◌≤◌, arith}
use Rattle.uc_tree.specs.Statements.{Stmt, Block, Empty, Evaluate, Declare, If, While, Do, For, Break, Continue, Return, Try, Throw, Raise, RaiseAt, Enable, Disable, Accept, Print, PrintTogether, Read, Resume, Suspend, Yield, Migrate, Stmts, NoStmts, MoreStmts, MaybeStmt, NoStmt, OneStmt, Handler, Handles, Handlers, NoHandlers, MoreHandlers, Clause, Accepts, Clauses, NoClauses, MoreClauses}
use Rattle.uc_tree.specs.StatementSizes.{stmt_size, stmts_size, maybe_stmt_size, handler_size, handlers_size, clause_size, clauses_size}
use Rattle.uc_tree.specs.Scopes.{alone_scopes, stmt_scopes, stmts_scopes, maybe_scopes, handler_scopes, handlers_scopes, clause_scopes, clauses_scopes}

mutual
  -- with that of a declaration alone
  alone_few : (s : Stmt) → alone_scopes s + stmt_scopes s ≤ stmt_size s
  alone_few (Block place body) = let h = stmts_few body in omega arith
  alone_few (Empty place) = omega arith
  alone_few (Evaluate place v) = omega arith
  alone_few (Declare place b ds) = omega arith
  alone_few (If place test chosen other) = let h = alone_few chosen in let k = maybe_few other in omega arith
  alone_few (While place test body) = let h = alone_few body in omega arith
  alone_few (Do place body test) = let h = alone_few body in omega arith
  alone_few (For place start test step body) = let h = alone_few body in omega arith
  alone_few (Break place) = omega arith
  alone_few (Continue place) = omega arith
  alone_few (Return place value) = omega arith
  alone_few (Try place brace body hs) = let h = stmts_few body in let k = handlers_few hs in omega arith
  alone_few (Throw place raised) = omega arith
  alone_few (Raise place raised) = omega arith
  alone_few (RaiseAt place raised target) = omega arith
  alone_few (Enable place events body) = let h = alone_few body in omega arith
  alone_few (Disable place events body) = let h = alone_few body in omega arith
  alone_few (Accept place cs other) = let h = clauses_few cs in let k = maybe_few other in omega arith
  alone_few (Print place items) = omega arith
  alone_few (PrintTogether place items) = omega arith
  alone_few (Read place places) = omega arith
  alone_few (Resume place) = omega arith
  alone_few (Suspend place) = omega arith
  alone_few (Yield place) = omega arith
  alone_few (Migrate place cluster) = omega arith

  pub stmts_few : (ss : Stmts) → stmts_scopes ss ≤ stmts_size ss
  stmts_few NoStmts = omega arith
  stmts_few (MoreStmts s ss) = let h = alone_few s in let k = stmts_few ss in omega arith

  maybe_few : (m : MaybeStmt) → maybe_scopes m ≤ maybe_stmt_size m
  maybe_few NoStmt = omega arith
  maybe_few (OneStmt body) = alone_few body

  handler_few : (h : Handler) → handler_scopes h ≤ handler_size h
  handler_few (Handles place kind event param brace body) = let h = stmts_few body in omega arith

  handlers_few : (hs : Handlers) → handlers_scopes hs ≤ handlers_size hs
  handlers_few NoHandlers = omega arith
  handlers_few (MoreHandlers h hs) = let j = handler_few h in let k = handlers_few hs in omega arith

  clause_few : (c : Clause) → clause_scopes c ≤ clause_size c
  clause_few (Accepts place guard members body) = let h = alone_few body in omega arith

  clauses_few : (cs : Clauses) → clauses_scopes cs ≤ clauses_size cs
  clauses_few NoClauses = omega arith
  clauses_few (MoreClauses c cs) = let j = clause_few c in let k = clauses_few cs in omega arith
