-- How many accept statements stand in a body is the same in every class.
use Rattle.std.proofs.Common.{◌≡◌, ℕ, suc, ◌+◌, List, ◌++◌, Option, None, length, refl, ap, sym, ◌∙◌}
use Rattle.std.proofs.lemmas.List.{length-append}
use Rattle.uc_tree.specs.Gathered.{gathered, gathered_all, gathered_clause, gathered_clauses, gathered_handler, gathered_handlers, gathered_maybe}
use Rattle.uc_tree.specs.Numbering.{own_sites}
use Rattle.uc_tree.specs.Programs.{Class, Site}
use Rattle.uc_tree.specs.Statements.{Stmt, Block, Empty, Evaluate, Declare, If, While, Do, For, Break, Continue, Return, Try, Throw, Raise, RaiseAt, Enable, Disable, Accept, Print, PrintTogether, Read, Resume, Suspend, Yield, Migrate, Stmts, NoStmts, MoreStmts, MaybeStmt, NoStmt, OneStmt, Handler, Handles, Handlers, NoHandlers, MoreHandlers, Clause, Accepts, Clauses, NoClauses, MoreClauses}

both_alike : (xs ys us vs : List Site) → length xs ≡ length us → length ys ≡ length vs → length (xs ++ ys) ≡ length (us ++ vs)
both_alike xs ys us vs e f = length-append xs ys ∙ ap (λ k. k + length ys) e ∙ ap (λ k. length us + k) f ∙ sym (length-append us vs)

module _ (c : Option Class) (n : ℕ) where
  mutual
    stmt_alike : (s : Stmt) → length (gathered (own_sites c n) s) ≡ length (gathered (own_sites None 0) s)
    stmt_alike (Block place body) = stmts_alike body
    stmt_alike (Empty place) = refl
    stmt_alike (Evaluate place v) = refl
    stmt_alike (Declare place b ds) = refl
    stmt_alike (If place test chosen other) = both_alike (gathered (own_sites c n) chosen) (gathered_maybe (own_sites c n) other) (gathered (own_sites None 0) chosen) (gathered_maybe (own_sites None 0) other) (stmt_alike chosen) (maybe_alike other)
    stmt_alike (While place test body) = stmt_alike body
    stmt_alike (Do place body test) = stmt_alike body
    stmt_alike (For place start test step body) = stmt_alike body
    stmt_alike (Break place) = refl
    stmt_alike (Continue place) = refl
    stmt_alike (Return place value) = refl
    stmt_alike (Try place brace body hs) = both_alike (gathered_all (own_sites c n) body) (gathered_handlers (own_sites c n) hs) (gathered_all (own_sites None 0) body) (gathered_handlers (own_sites None 0) hs) (stmts_alike body) (handlers_alike hs)
    stmt_alike (Throw place raised) = refl
    stmt_alike (Raise place raised) = refl
    stmt_alike (RaiseAt place raised target) = refl
    stmt_alike (Enable place events body) = stmt_alike body
    stmt_alike (Disable place events body) = stmt_alike body
    stmt_alike (Accept place cs other) = ap suc (both_alike (gathered_clauses (own_sites c n) cs) (gathered_maybe (own_sites c n) other) (gathered_clauses (own_sites None 0) cs) (gathered_maybe (own_sites None 0) other) (clauses_alike cs) (maybe_alike other))
    stmt_alike (Print place items) = refl
    stmt_alike (PrintTogether place items) = refl
    stmt_alike (Read place places) = refl
    stmt_alike (Resume place) = refl
    stmt_alike (Suspend place) = refl
    stmt_alike (Yield place) = refl
    stmt_alike (Migrate place cluster) = refl

    pub stmts_alike : (ss : Stmts) → length (gathered_all (own_sites c n) ss) ≡ length (gathered_all (own_sites None 0) ss)
    stmts_alike NoStmts = refl
    stmts_alike (MoreStmts s ss) = both_alike (gathered (own_sites c n) s) (gathered_all (own_sites c n) ss) (gathered (own_sites None 0) s) (gathered_all (own_sites None 0) ss) (stmt_alike s) (stmts_alike ss)

    maybe_alike : (m : MaybeStmt) → length (gathered_maybe (own_sites c n) m) ≡ length (gathered_maybe (own_sites None 0) m)
    maybe_alike NoStmt = refl
    maybe_alike (OneStmt body) = stmt_alike body

    handler_alike : (h : Handler) → length (gathered_handler (own_sites c n) h) ≡ length (gathered_handler (own_sites None 0) h)
    handler_alike (Handles place kind event param brace body) = stmts_alike body

    handlers_alike : (hs : Handlers) → length (gathered_handlers (own_sites c n) hs) ≡ length (gathered_handlers (own_sites None 0) hs)
    handlers_alike NoHandlers = refl
    handlers_alike (MoreHandlers h hs) = both_alike (gathered_handler (own_sites c n) h) (gathered_handlers (own_sites c n) hs) (gathered_handler (own_sites None 0) h) (gathered_handlers (own_sites None 0) hs) (handler_alike h) (handlers_alike hs)

    clause_alike : (x : Clause) → length (gathered_clause (own_sites c n) x) ≡ length (gathered_clause (own_sites None 0) x)
    clause_alike (Accepts place guard members body) = stmt_alike body

    clauses_alike : (cs : Clauses) → length (gathered_clauses (own_sites c n) cs) ≡ length (gathered_clauses (own_sites None 0) cs)
    clauses_alike NoClauses = refl
    clauses_alike (MoreClauses x cs) = both_alike (gathered_clause (own_sites c n) x) (gathered_clauses (own_sites c n) cs) (gathered_clause (own_sites None 0) x) (gathered_clauses (own_sites None 0) cs) (clause_alike x) (clauses_alike cs)
