-- More declarators in scope round a statement make its exits no fewer.
use Rattle.std.proofs.Common.{ℕ, ◌+◌, ◌≤◌, arith}
use Rattle.uc_tree.specs.Statements.{Stmt, Block, Empty, Evaluate, Declare, If, While, Do, For, Break, Continue, Return, Try, Throw, Raise, RaiseAt, Enable, Disable, Accept, Print, PrintTogether, Read, Resume, Suspend, Yield, Migrate, Stmts, NoStmts, MoreStmts, MaybeStmt, NoStmt, OneStmt, Handler, Handles, Handlers, NoHandlers, MoreHandlers, Clause, Accepts, Clauses, NoClauses, MoreClauses}
use Rattle.uc_tree.specs.Exits.{declares, for_declares, exits, exits_all, exits_maybe, exits_handler, exits_handlers, exits_clause, exits_clauses}

mutual
  pub exits_grow : (s : Stmt) (k j : ℕ) → k ≤ j → exits s k ≤ exits s j
  exits_grow (Block place body) k j l = exits_all_grow body k j l
  exits_grow (Empty place) k j l = omega arith
  exits_grow (Evaluate place v) k j l = omega arith
  exits_grow (Declare place b ds) k j l = omega arith
  exits_grow (If place test chosen other) k j l = let h = exits_grow chosen k j l in let g = exits_maybe_grow other k j l in omega arith
  exits_grow (While place test body) k j l = exits_grow body k j l
  exits_grow (Do place body test) k j l = exits_grow body k j l
  exits_grow (For place start test step body) k j l = exits_grow body (k + for_declares start) (j + for_declares start) (omega arith)
  exits_grow (Break place) k j l = l
  exits_grow (Continue place) k j l = l
  exits_grow (Return place value) k j l = l
  exits_grow (Try place brace body hs) k j l = let h = exits_all_grow body k j l in let g = exits_handlers_grow hs k j l in omega arith
  exits_grow (Throw place raised) k j l = omega arith
  exits_grow (Raise place raised) k j l = omega arith
  exits_grow (RaiseAt place raised target) k j l = omega arith
  exits_grow (Enable place events body) k j l = exits_grow body (k + 1) (j + 1) (omega arith)
  exits_grow (Disable place events body) k j l = exits_grow body (k + 1) (j + 1) (omega arith)
  exits_grow (Accept place cs other) k j l = let h = exits_clauses_grow cs k j l in let g = exits_maybe_grow other k j l in omega arith
  exits_grow (Print place items) k j l = omega arith
  exits_grow (PrintTogether place items) k j l = omega arith
  exits_grow (Read place places) k j l = omega arith
  exits_grow (Resume place) k j l = omega arith
  exits_grow (Suspend place) k j l = omega arith
  exits_grow (Yield place) k j l = omega arith
  exits_grow (Migrate place cluster) k j l = omega arith

  pub exits_all_grow : (ss : Stmts) (k j : ℕ) → k ≤ j → exits_all ss k ≤ exits_all ss j
  exits_all_grow NoStmts k j l = omega arith
  exits_all_grow (MoreStmts s ss) k j l = let h = exits_grow s k j l in let g = exits_all_grow ss (k + declares s) (j + declares s) (omega arith) in omega arith

  exits_maybe_grow : (m : MaybeStmt) (k j : ℕ) → k ≤ j → exits_maybe m k ≤ exits_maybe m j
  exits_maybe_grow NoStmt k j l = omega arith
  exits_maybe_grow (OneStmt body) k j l = exits_grow body k j l

  exits_handler_grow : (h : Handler) (k j : ℕ) → k ≤ j → exits_handler h k ≤ exits_handler h j
  exits_handler_grow (Handles place kind event param brace body) k j l = exits_all_grow body k j l

  exits_handlers_grow : (hs : Handlers) (k j : ℕ) → k ≤ j → exits_handlers hs k ≤ exits_handlers hs j
  exits_handlers_grow NoHandlers k j l = omega arith
  exits_handlers_grow (MoreHandlers h hs) k j l = let f = exits_handler_grow h k j l in let g = exits_handlers_grow hs k j l in omega arith

  exits_clause_grow : (c : Clause) (k j : ℕ) → k ≤ j → exits_clause c k ≤ exits_clause c j
  exits_clause_grow (Accepts place guard members body) k j l = exits_grow body k j l

  exits_clauses_grow : (cs : Clauses) (k j : ℕ) → k ≤ j → exits_clauses cs k ≤ exits_clauses cs j
  exits_clauses_grow NoClauses k j l = omega arith
  exits_clauses_grow (MoreClauses c cs) k j l = let f = exits_clause_grow c k j l in let g = exits_clauses_grow cs k j l in omega arith
