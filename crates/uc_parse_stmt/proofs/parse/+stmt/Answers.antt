use Rattle.std.proofs.Common.{rules, ◌≡◌, ◌<◌, ◌≤◌, inl, inr, refl, subst, arith, length, [], ◌∷◌, ◌++◌}
use Rattle.std.proofs.lemmas.Result.{err_from_is_err_and}
use Rattle.uc_tree.specs.Statements.{Stmt, stmts_of}
use Rattle.uc_tree.specs.declared.token.Word.TheVariants as word
use Rattle.uc_grammar.specs.Names.{stmt_name, block_stmt_name}
use Rattle.uc_grammar.specs.Spell.{Begins, Run, ListRun}
use Rattle.uc_grammar.specs.Form.{Spells, Fails, skip, inside}
use Rattle.uc_grammar.specs.Tables.{word_of, is_or, is_handler, in_braces}
use Rattle.uc_grammar.specs.Grammar.{block_rest, handler_form, handlers_form, clause_form, maybe_stmt, stmt_form, inner, faults}
use Rattle.uc_grammar.proofs.Fit.{run_more, list_more}
use Rattle.uc_parse_stmt.specs.Forms.{stmts_form}
use Rattle.uc_parse_stmt.specs.Heads.{accept_rest, bodies_form, clause_of, clause_rest, clauses_rest, close_form, else_of, handler_of, handler_rest, handlers_rest, head_form, maybe_by, try_form}
use Rattle.uc_parse_stmt.specs.Leads.{Leads}
use Rattle.uc_parse_stmt.specs.Parts.{bodies_of}
use Rattle.uc_parse_stmt.proofs.HeadsLemmas.{headed_found, bodies_fail, close_fails}
use Rattle.uc_parse_stmt.proofs.LeadsLemmas.{in_listed}
use Rattle.uc_parse_stmt.proofs.Below.{below_found, below_fails, none_below}
use Rattle.uc_parse_stmt.proofs.parse.+stmt.Goals as goal

pub read_inner_stmt-returns-in_err-below-clause-fails : goal.read_inner_stmt-returns-in_err-below-clause-fails
read_inner_stmt-returns-in_err-below-clause-fails t c = let h : Fails (inner c.args.room) (faults c.args.room) (inside stmt_name) c.args.tokens.now c.args.from c.in_err-below.field-0.0 = none_below Stmt stmt_name _ _ _ _ c.in_err-below.ensures.none_left in
    let p = err_from_is_err_and c.from_residual.result c.from_residual.ensures.1 in rw (p.1, p.2) h

pub read_inner_stmt-returns-in_err-s-clause-fails : goal.read_inner_stmt-returns-in_err-s-clause-fails
read_inner_stmt-returns-in_err-s-clause-fails t c = let h : Fails (inner c.args.room) (faults c.args.room) (inside stmt_name) c.args.tokens.now c.args.from c.in_err-s.field-0.0 = below_fails Stmt stmt_name _ _ _ _ _ c.in_ok-below.ensures.one_less c.in_err-s.ensures.fails in
    let p = err_from_is_err_and c.from_residual-in_err-s.result c.from_residual-in_err-s.ensures.1 in rw (p.1, p.2) h

pub read_inner_stmt-returns-clause-found : goal.read_inner_stmt-returns-clause-found
read_inner_stmt-returns-clause-found t c = below_found Stmt stmt_name _ _ _ _ _ _ c.in_ok-below.ensures.one_less c.in_ok-s.ensures.found

pub read_stmt-returns-in_err-s-clause-fails : goal.read_stmt-returns-in_err-s-clause-fails
read_stmt-returns-in_err-s-clause-fails t c = let h : Fails (inner c.args.room) (faults c.args.room) stmt_form c.args.tokens.now c.args.from c.in_err-s.field-0.0 = c.in_ok-pos.ensures.leads.fails c.in_err-s.ensures.open _ c.in_err-s.ensures.fails in
    let p = err_from_is_err_and c.from_residual-in_err-s.result c.from_residual-in_err-s.ensures.1 in rw (p.1, p.2) h

pub read_stmt-returns-clause-found : goal.read_stmt-returns-clause-found
read_stmt-returns-clause-found t c = c.in_ok-pos.ensures.leads.spells _ _ c.in_ok-s.ensures.found

pub read_stmts-items-init : goal.read_stmts-items-init
unfolding Run
read_stmts-items-init t c = search rules

pub read_stmts-items-preserved : goal.read_stmts-items-preserved
read_stmts-items-preserved t c = let b : Begins in_braces c.args.tokens.now c.items.at = search rules in
    record {
      run = let more = run_more in_braces (Spells (inner c.args.room) (inside block_stmt_name)) c.args.tokens.now c.args.from c.items.at c.in_ok-next.end c.items.all.items c.in_ok-next.next c.items.invariant.run b (below_found Stmt block_stmt_name _ _ _ _ _ _ c.in_ok-below.ensures.one_less c.in_ok-next.ensures.found) in
          let e : c.push.new.self.items ≡ c.items.all.items ++ c.in_ok-next.next ∷ [] = search rules in rw e more;
      after = omega (arith, c.in_ok-next.ensures.moved.0);
      within = c.in_ok-next.ensures.moved.1;
    }

pub read_stmts-returns-in_err-below-clause-fails : goal.read_stmts-returns-in_err-below-clause-fails
read_stmts-returns-in_err-below-clause-fails t c = let b : Begins in_braces c.args.tokens.now c.items.at = search rules in
    let h : Fails (inner c.args.room) (faults c.args.room) stmts_form c.args.tokens.now c.args.from c.in_err-below.field-0.0 = inl (c.items.at, c.items.all.items, c.items.invariant.run, b, none_below Stmt block_stmt_name _ _ _ _ c.in_err-below.ensures.none_left) in
    let p = err_from_is_err_and c.from_residual.result c.from_residual.ensures.1 in rw (p.1, p.2) h

pub read_stmts-returns-in_err-next-clause-fails : goal.read_stmts-returns-in_err-next-clause-fails
read_stmts-returns-in_err-next-clause-fails t c = let b : Begins in_braces c.args.tokens.now c.items.at = search rules in
    let h : Fails (inner c.args.room) (faults c.args.room) stmts_form c.args.tokens.now c.args.from c.in_err-next.field-0.0 = inl (c.items.at, c.items.all.items, c.items.invariant.run, b, below_fails Stmt block_stmt_name _ _ _ _ _ c.in_ok-below.ensures.one_less c.in_err-next.ensures.fails) in
    let p = err_from_is_err_and c.from_residual-in_err-next.result c.from_residual-in_err-next.ensures.1 in rw (p.1, p.2) h

pub read_handlers-items-init : goal.read_handlers-items-init
unfolding Run ListRun
read_handlers-items-init t c = search rules

pub read_handlers-items-preserved : goal.read_handlers-items-preserved
read_handlers-items-preserved t c = let b : Begins (λ o. is_handler (word_of o)) c.args.tokens.now c.items.at = search rules in
    let body : Spells (inner c.args.room) block_rest c.args.tokens.now c.in_ok-head.open c.in_ok-head-2.end (stmts_of c.in_ok-head-2.body.items) = search rules in
    let moved : (c.in_ok-head.open < c.in_ok-head-2.end) × (c.in_ok-head-2.end ≤ length c.args.tokens.now) = search rules in
    let value : c.handler_of-in-items.result ≡ handler_of c.in_ok-head.head (stmts_of c.in_ok-head-2.body.items) = search rules in
    record {
      run = let more = list_more (Spells (inner c.args.room) (handler_rest c.args.first)) (λ o. is_handler (word_of o)) (Spells (inner c.args.room) handler_form) c.args.tokens.now c.args.from c.items.at c.in_ok-head-2.end c.items.all.items c.handler_of-in-items.result c.items.invariant.run b (c.in_ok-head.ensures.leads.spells _ _ (record { inside = stmts_of c.in_ok-head-2.body.items; spelled = body; value = value })) in
          let e : c.push-in-items.new.self.items ≡ c.items.all.items ++ c.handler_of-in-items.result ∷ [] = search rules in rw e more;
      after = omega (arith, c.in_ok-head.ensures.moved.0, moved.0);
      within = moved.1;
    }

pub read_handlers-returns-in_err-head-clause-fails : goal.read_handlers-returns-in_err-head-clause-fails
read_handlers-returns-in_err-head-clause-fails t c = let b : Begins (λ o. is_handler (word_of o)) c.args.tokens.now c.items.at = search rules in
    let h : Fails (inner c.args.room) (faults c.args.room) (handlers_rest c.args.first) c.args.tokens.now c.args.from c.in_err-head.field-0.0 = inr (inl (c.items.at, c.items.all.items, c.items.invariant.run, b, c.in_err-head.ensures.fails)) in
    let p = err_from_is_err_and c.from_residual-in_err-head.result c.from_residual-in_err-head.ensures.1 in rw (p.1, p.2) h

pub read_handlers-returns-in_err-head-2-clause-fails : goal.read_handlers-returns-in_err-head-2-clause-fails
read_handlers-returns-in_err-head-2-clause-fails t c = let b : Begins (λ o. is_handler (word_of o)) c.args.tokens.now c.items.at = search rules in
    let none : Fails (inner c.args.room) (faults c.args.room) block_rest c.args.tokens.now c.in_ok-head.open c.in_err-head-2.field-0.0 = search rules in
    let h : Fails (inner c.args.room) (faults c.args.room) (handlers_rest c.args.first) c.args.tokens.now c.args.from c.in_err-head-2.field-0.0 = inr (inl (c.items.at, c.items.all.items, c.items.invariant.run, b, c.in_ok-head.ensures.leads.fails _ (inl none))) in
    let p = err_from_is_err_and c.from_residual-in_err-head-2.result c.from_residual-in_err-head-2.ensures.1 in rw (p.1, p.2) h

pub read_clauses-items-init : goal.read_clauses-items-init
unfolding Run ListRun
read_clauses-items-init t c = search rules

pub read_clauses-items-preserved : goal.read_clauses-items-preserved
read_clauses-items-preserved t c = let b : Begins (λ o. is_or (word_of o)) c.args.tokens.now c.items.at = search rules in
    let body : Spells (inner c.args.room) (inside stmt_name) c.args.tokens.now c.in_ok-head.open c.in_ok-head-2.end c.in_ok-head-2.body = search rules in
    let moved : (c.in_ok-head.open < c.in_ok-head-2.end) × (c.in_ok-head-2.end ≤ length c.args.tokens.now) = search rules in
    let value : c.clause_of-in-items.result ≡ clause_of c.in_ok-head.head c.in_ok-head-2.body = search rules in
    record {
      run = let more = list_more (Spells (inner c.args.room) (clause_rest c.args.first)) (λ o. is_or (word_of o)) (Spells (inner c.args.room) (skip clause_form)) c.args.tokens.now c.args.from c.items.at c.in_ok-head-2.end c.items.all.items c.clause_of-in-items.result c.items.invariant.run b (c.in_ok-head.ensures.leads.spells _ _ (record { inside = c.in_ok-head-2.body; spelled = body; value = value })) in
          let e : c.push-in-items.new.self.items ≡ c.items.all.items ++ c.clause_of-in-items.result ∷ [] = search rules in rw e more;
      after = omega (arith, c.in_ok-head.ensures.moved.0, moved.0);
      within = moved.1;
    }

pub read_clauses-returns-in_err-head-2-clause-fails : goal.read_clauses-returns-in_err-head-2-clause-fails
read_clauses-returns-in_err-head-2-clause-fails t c = let b : Begins (λ o. is_or (word_of o)) c.args.tokens.now c.items.at = search rules in
    let none : Fails (inner c.args.room) (faults c.args.room) (inside stmt_name) c.args.tokens.now c.in_ok-head.open c.in_err-head-2.field-0.0 = search rules in
    let h : Fails (inner c.args.room) (faults c.args.room) (clauses_rest c.args.first) c.args.tokens.now c.args.from c.in_err-head-2.field-0.0 = inr (inl (c.items.at, c.items.all.items, c.items.invariant.run, b, c.in_ok-head.ensures.leads.fails _ (inl none))) in
    let p = err_from_is_err_and c.from_residual-in_err-head-2.result c.from_residual-in_err-head-2.ensures.1 in rw (p.1, p.2) h

pub read_accept-returns-in_err-clauses-clause-fails : goal.read_accept-returns-in_err-clauses-clause-fails
read_accept-returns-in_err-clauses-clause-fails t c = let h : Fails (inner c.args.room) (faults c.args.room) (accept_rest c.args.pos c.args.first) c.args.tokens.now c.args.from c.in_err-clauses.field-0.0 = inl c.in_err-clauses.ensures.fails in
    let p = err_from_is_err_and c.from_residual.result c.from_residual.ensures.1 in rw (p.1, p.2) h

pub read_headed-returns-in_err-head-clause-fails : goal.read_headed-returns-in_err-head-clause-fails
read_headed-returns-in_err-head-clause-fails t c =
    let w : Fails (inner c.args.room) (faults c.args.room) (bodies_form c.else_of-word.result) c.args.tokens.now c.args.from c.in_err-head.field-0.0 = search rules in
    let m : Fails (inner c.args.room) (faults c.args.room) (bodies_form (else_of c.args.head)) c.args.tokens.now c.args.from c.in_err-head.field-0.0 = subst (λ w. Fails (inner c.args.room) (faults c.args.room) (bodies_form w) c.args.tokens.now c.args.from c.in_err-head.field-0.0) c.else_of-word.ensures w in
    let h : Fails (inner c.args.room) (faults c.args.room) (head_form c.args.pos c.args.head) c.args.tokens.now c.args.from c.in_err-head.field-0.0 = bodies_fail c.args.room c.args.tokens.now c.args.pos c.args.head c.args.from _ m in
    let p = err_from_is_err_and c.from_residual.result c.from_residual.ensures.1 in rw (p.1, p.2) h

pub read_headed-returns-in_err-s-clause-fails : goal.read_headed-returns-in_err-s-clause-fails
read_headed-returns-in_err-s-clause-fails t c =
    let w : Spells (inner c.args.room) (bodies_form c.else_of-word.result) c.args.tokens.now c.args.from c.in_ok-head.at (bodies_of c.in_ok-head.bodies) = search rules in
    let m : Spells (inner c.args.room) (bodies_form (else_of c.args.head)) c.args.tokens.now c.args.from c.in_ok-head.at (bodies_of c.in_ok-head.bodies) = subst (λ w. Spells (inner c.args.room) (bodies_form w) c.args.tokens.now c.args.from c.in_ok-head.at (bodies_of c.in_ok-head.bodies)) c.else_of-word.ensures w in
    let k : Fails (inner c.args.room) (faults c.args.room) (close_form c.args.pos c.args.head (bodies_of c.in_ok-head.bodies).0 (bodies_of c.in_ok-head.bodies).1) c.args.tokens.now c.in_ok-head.at c.in_err-s.field-0.0 = subst (λ x. Fails (inner c.args.room) (faults c.args.room) (close_form c.args.pos x (bodies_of c.in_ok-head.bodies).0 (bodies_of c.in_ok-head.bodies).1) c.args.tokens.now c.in_ok-head.at c.in_err-s.field-0.0) c.in_ok-head.ensures.found.0 c.in_err-s.ensures.fails in
    let h : Fails (inner c.args.room) (faults c.args.room) (head_form c.args.pos c.args.head) c.args.tokens.now c.args.from c.in_err-s.field-0.0 = close_fails c.args.room c.args.tokens.now c.args.pos c.args.head (bodies_of c.in_ok-head.bodies) c.args.from c.in_ok-head.at _ m k in
    let p = err_from_is_err_and c.from_residual-in_err-s.result c.from_residual-in_err-s.ensures.1 in rw (p.1, p.2) h

pub read_headed-returns-clause-found : goal.read_headed-returns-clause-found
read_headed-returns-clause-found t c =
    let w : Spells (inner c.args.room) (bodies_form c.else_of-word.result) c.args.tokens.now c.args.from c.in_ok-head.at (bodies_of c.in_ok-head.bodies) = search rules in
    let m : Spells (inner c.args.room) (bodies_form (else_of c.args.head)) c.args.tokens.now c.args.from c.in_ok-head.at (bodies_of c.in_ok-head.bodies) = subst (λ w. Spells (inner c.args.room) (bodies_form w) c.args.tokens.now c.args.from c.in_ok-head.at (bodies_of c.in_ok-head.bodies)) c.else_of-word.ensures w in
    let k : Spells (inner c.args.room) (close_form c.args.pos c.args.head (bodies_of c.in_ok-head.bodies).0 (bodies_of c.in_ok-head.bodies).1) c.args.tokens.now c.in_ok-head.at c.in_ok-s.to c.in_ok-s.s = subst (λ x. Spells (inner c.args.room) (close_form c.args.pos x (bodies_of c.in_ok-head.bodies).0 (bodies_of c.in_ok-head.bodies).1) c.args.tokens.now c.in_ok-head.at c.in_ok-s.to c.in_ok-s.s) c.in_ok-head.ensures.found.0 c.in_ok-s.ensures.found in
    headed_found c.args.room c.args.tokens.now c.args.pos c.args.head (bodies_of c.in_ok-head.bodies) c.args.from c.in_ok-head.at _ _ m k

pub read_try-returns-in_err-body-3-clause-fails : goal.read_try-returns-in_err-body-3-clause-fails
read_try-returns-in_err-body-3-clause-fails t c =
    let first : Leads c.args.room c.args.tokens.now handler_form c.in_ok-body.end (handler_rest c.in_ok-body-2.first) c.in_ok-body-2.at = search rules in
    let l : Leads c.args.room c.args.tokens.now handlers_form c.in_ok-body.end (handlers_rest c.in_ok-body-2.first) c.in_ok-body-2.at = in_listed _ _ handler_form (handler_rest c.in_ok-body-2.first) (λ o. is_handler (word_of o)) handler_form _ _ first in
    let none : Fails (inner c.args.room) (faults c.args.room) (handlers_rest c.in_ok-body-2.first) c.args.tokens.now c.in_ok-body-2.at c.in_err-body-3.field-0.0 = search rules in
    let h : Fails (inner c.args.room) (faults c.args.room) (try_form c.args.pos c.args.brace) c.args.tokens.now c.args.from c.in_err-body-3.field-0.0 = inr (inl (c.in_ok-body.end, stmts_of c.in_ok-body.body.items, c.in_ok-body.ensures.found, inl (l.fails _ none))) in
    let p = err_from_is_err_and c.from_residual-in_err-body-3.result c.from_residual-in_err-body-3.ensures.1 in rw (p.1, p.2) h

pub read_try-returns-clause-found : goal.read_try-returns-clause-found
read_try-returns-clause-found t c =
    let first : Leads c.args.room c.args.tokens.now handler_form c.in_ok-body.end (handler_rest c.in_ok-body-2.first) c.in_ok-body-2.at = search rules in
    let l : Leads c.args.room c.args.tokens.now handlers_form c.in_ok-body.end (handlers_rest c.in_ok-body-2.first) c.in_ok-body-2.at = in_listed _ _ handler_form (handler_rest c.in_ok-body-2.first) (λ o. is_handler (word_of o)) handler_form _ _ first in
    let all : Spells (inner c.args.room) (handlers_rest c.in_ok-body-2.first) c.args.tokens.now c.in_ok-body-2.at c.in_ok-body-3.to c.in_ok-body-3.handlers.items = search rules in
    let e : c.in_ok-body-3.body ≡ c.in_ok-body.body = search rules in
    rw e (record { middle = c.in_ok-body.end; left = stmts_of c.in_ok-body.body.items; first = c.in_ok-body.ensures.found; second = record { inside = c.in_ok-body-3.handlers.items; spelled = l.spells _ _ all; value = refl } })

pub read_bodies-returns-in_err-body-clause-fails : goal.read_bodies-returns-in_err-body-clause-fails
read_bodies-returns-in_err-body-clause-fails t c = let h : Fails (inner c.args.room) (faults c.args.room) (bodies_form c.args.word) c.args.tokens.now c.args.from c.in_err-body.field-0.0 = inl c.in_err-body.ensures.fails in
    let p = err_from_is_err_and c.from_residual.result c.from_residual.ensures.1 in rw (p.1, p.2) h

pub read_bodies-returns-in_err-body-2-clause-fails : goal.read_bodies-returns-in_err-body-2-clause-fails
read_bodies-returns-in_err-body-2-clause-fails t c = let none : Fails (inner c.args.room) (faults c.args.room) (maybe_by c.args.word) c.args.tokens.now c.in_ok-body.at c.in_err-body-2.field-0.0 = search rules in
    let h : Fails (inner c.args.room) (faults c.args.room) (bodies_form c.args.word) c.args.tokens.now c.args.from c.in_err-body-2.field-0.0 = inr (inl (c.in_ok-body.at, c.in_ok-body.body, c.in_ok-body.ensures.found, inl none)) in
    let p = err_from_is_err_and c.from_residual-in_err-body-2.result c.from_residual-in_err-body-2.ensures.1 in rw (p.1, p.2) h

pub read_block_rest-returns-in_err-all-clause-fails : goal.read_block_rest-returns-in_err-all-clause-fails
read_block_rest-returns-in_err-all-clause-fails t c = let h : Fails (inner c.args.room) (faults c.args.room) block_rest c.args.tokens.now c.args.from c.in_err-all.field-0.0 = inl (inl c.in_err-all.ensures.fails) in
    let p = err_from_is_err_and c.from_residual.result c.from_residual.ensures.1 in rw (p.1, p.2) h

pub read_block_rest-returns-in_err-all-2-clause-fails : goal.read_block_rest-returns-in_err-all-2-clause-fails
read_block_rest-returns-in_err-all-2-clause-fails t c = let h : Fails (inner c.args.room) (faults c.args.room) block_rest c.args.tokens.now c.args.from c.in_err-all-2.field-0.0 = inl (inr (inl (c.in_ok-all.at, c.in_ok-all.all.items, c.in_ok-all.ensures.found, inl c.in_err-all-2.ensures.fails))) in
    let p = err_from_is_err_and c.from_residual-in_err-all-2.result c.from_residual-in_err-all-2.ensures.1 in rw (p.1, p.2) h

pub read_handlers-returns-in_err-first-clause-fails : goal.read_handlers-returns-in_err-first-clause-fails
read_handlers-returns-in_err-first-clause-fails t c = let none : Fails (inner c.args.room) (faults c.args.room) block_rest c.args.tokens.now c.args.from c.in_err-first.field-0.0 = search rules in
    let h : Fails (inner c.args.room) (faults c.args.room) (handlers_rest c.args.first) c.args.tokens.now c.args.from c.in_err-first.field-0.0 = inl (inl none) in
    let p = err_from_is_err_and c.from_residual.result c.from_residual.ensures.1 in rw (p.1, p.2) h

pub read_try-returns-in_err-body-clause-fails : goal.read_try-returns-in_err-body-clause-fails
read_try-returns-in_err-body-clause-fails t c = let h : Fails (inner c.args.room) (faults c.args.room) (try_form c.args.pos c.args.brace) c.args.tokens.now c.args.from c.in_err-body.field-0.0 = inl c.in_err-body.ensures.fails in
    let p = err_from_is_err_and c.from_residual.result c.from_residual.ensures.1 in rw (p.1, p.2) h

pub read_try-returns-in_err-body-2-clause-fails : goal.read_try-returns-in_err-body-2-clause-fails
read_try-returns-in_err-body-2-clause-fails t c = let none : Fails (inner c.args.room) (faults c.args.room) handler_form c.args.tokens.now c.in_ok-body.end c.in_err-body-2.field-0.0 = search rules in
    let h : Fails (inner c.args.room) (faults c.args.room) (try_form c.args.pos c.args.brace) c.args.tokens.now c.args.from c.in_err-body-2.field-0.0 = inr (inl (c.in_ok-body.end, stmts_of c.in_ok-body.body.items, c.in_ok-body.ensures.found, inl (inl none))) in
    let p = err_from_is_err_and c.from_residual-in_err-body-2.result c.from_residual-in_err-body-2.ensures.1 in rw (p.1, p.2) h

pub read_clauses-returns-in_err-first-clause-fails : goal.read_clauses-returns-in_err-first-clause-fails
read_clauses-returns-in_err-first-clause-fails t c = let none : Fails (inner c.args.room) (faults c.args.room) (inside stmt_name) c.args.tokens.now c.args.from c.in_err-first.field-0.0 = search rules in
    let h : Fails (inner c.args.room) (faults c.args.room) (clauses_rest c.args.first) c.args.tokens.now c.args.from c.in_err-first.field-0.0 = inl (inl none) in
    let p = err_from_is_err_and c.from_residual.result c.from_residual.ensures.1 in rw (p.1, p.2) h

pub read_accept-returns-in_err-clauses-2-clause-fails : goal.read_accept-returns-in_err-clauses-2-clause-fails
read_accept-returns-in_err-clauses-2-clause-fails t c = let none : Fails (inner c.args.room) (faults c.args.room) (maybe_stmt word.AcceptElse) c.args.tokens.now c.in_ok-clauses.at c.in_err-clauses-2.field-0.0 = search rules in
    let h : Fails (inner c.args.room) (faults c.args.room) (accept_rest c.args.pos c.args.first) c.args.tokens.now c.args.from c.in_err-clauses-2.field-0.0 = inr (inl (c.in_ok-clauses.at, c.in_ok-clauses.clauses.items, c.in_ok-clauses.ensures.found, inl none)) in
    let p = err_from_is_err_and c.from_residual-in_err-clauses-2.result c.from_residual-in_err-clauses-2.ensures.1 in rw (p.1, p.2) h
