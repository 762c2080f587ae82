use Rattle.std.proofs.Common.{rules, ◌≡◌, subst, Some, None, inl, inr, ◌+◌, arith, [], ◌∷◌, ◌++◌}
use Rattle.std.proofs.lemmas.Result.{err_from_is_err_and}
use Rattle.uc_tree.specs.declared.token.TokenKind.TheVariants as token
use Rattle.uc_tree.specs.declared.token.Sign.TheVariants as sign
use Rattle.uc_tree.specs.Expressions.{Expr}
use Rattle.uc_grammar.specs.Names.{expr_name, unary_name, right_name}
use Rattle.uc_grammar.specs.Spell.{kind_at, pos_at, Begins, Run, ListRun}
use Rattle.uc_grammar.specs.Form.{Spells, Fails, skip, inside}
use Rattle.uc_grammar.specs.Tables.{sign_of, assign_of, binary_of, unary_of, is_part, is_comma, is_binary}
use Rattle.uc_grammar.specs.Grammar.{arguments_form, closed_arguments, part_form, postfix_after, postfix_form, primary_at, primary_form, link_by, link_form, chain_after, level_after, operand_form, unary_by, unary_form, assigned_by, right_form, right_after, expr_after, expr_form, inner, faults}
use Rattle.uc_grammar.proofs.Fit.{run_more, list_more}
use Rattle.uc_parse_expr.specs.Loops.{links_form, parts_form}
use Rattle.uc_parse_expr.proofs.Steps.{deeper, deeper_fails, no_room, by_fails, after_found, after_fails, operand_found, operand_fails}
use Rattle.uc_parse_expr.proofs.parse.+expr.Goals as goal

pub read_arguments-items-init : goal.read_arguments-items-init
unfolding Run ListRun
read_arguments-items-init t c = search rules

pub read_arguments-items-preserved : goal.read_arguments-items-preserved
read_arguments-items-preserved t c = let b : Begins (λ o. is_comma (sign_of o)) c.args.tokens.now c.items.at = search rules in
    record {
      run = let more = list_more (Spells (inner c.args.room) (inside expr_name)) (λ o. is_comma (sign_of o)) (Spells (inner c.args.room) (skip (inside expr_name))) c.args.tokens.now c.args.from c.items.at c.in_ok-next.end c.items.all.items c.in_ok-next.next c.items.invariant.run b c.in_ok-next.ensures.found in
          let e : c.push-in-items.new.self.items ≡ c.items.all.items ++ c.in_ok-next.next ∷ [] = search rules in rw e more;
      after = omega (arith, c.in_ok-next.ensures.moved.0);
      within = c.in_ok-next.ensures.moved.1;
    }

pub read_parts-items-init : goal.read_parts-items-init
unfolding Run
read_parts-items-init t c = search rules

pub read_parts-items-preserved : goal.read_parts-items-preserved
read_parts-items-preserved t c = record {
  run = let more = run_more (λ o. is_part (sign_of o)) (Spells (inner c.args.room) part_form) c.args.tokens.now c.args.from c.items.at c.in_ok-next.end c.items.all.items c.in_ok-next.next c.items.invariant.run (search rules) c.in_ok-next.ensures.found in
      let e : c.push.new.self.items ≡ c.items.all.items ++ c.in_ok-next.next ∷ [] = search rules in rw e more;
  after = omega (arith, c.in_ok-next.ensures.moved.0);
  within = c.in_ok-next.ensures.moved.1;
}

pub read_links-items-init : goal.read_links-items-init
unfolding Run
read_links-items-init t c = search rules

pub read_links-items-preserved : goal.read_links-items-preserved
read_links-items-preserved t c = record {
  run = let more = run_more (λ o. is_binary c.args.level (sign_of o)) (Spells (inner c.args.room) (link_form c.args.level (operand_form c.args.level))) c.args.tokens.now c.args.from c.items.at c.in_ok-next.end c.items.all.items c.in_ok-next.next c.items.invariant.run (search rules) c.in_ok-next.ensures.found in
      let e : c.push.new.self.items ≡ c.items.all.items ++ c.in_ok-next.next ∷ [] = search rules in rw e more;
  after = omega (arith, c.in_ok-next.ensures.moved.0);
  within = c.in_ok-next.ensures.moved.1;
}

pub read_closed_arguments-returns-in_err-all-clause-fails : goal.read_closed_arguments-returns-in_err-all-clause-fails
read_closed_arguments-returns-in_err-all-clause-fails t c = let other : kind_at c.args.tokens.now c.args.from ≡ Some (token.Sign c.args.close) → ⊥ = search rules in let h : Fails (inner c.args.room) (faults c.args.room) (closed_arguments c.args.close) c.args.tokens.now c.args.from c.in_err-all.field-0.0 = inr (other, inl c.in_err-all.ensures.fails) in search (rules, h)

pub read_closed_arguments-returns-clause-found : goal.read_closed_arguments-returns-clause-found
read_closed_arguments-returns-clause-found t c = let other : kind_at c.args.tokens.now c.args.from ≡ Some (token.Sign c.args.close) → ⊥ = search rules in let same : c.in_ok-all-2.all.items ≡ c.in_ok-all.all.items = search rules in inr (other, record { middle = c.in_ok-all.at; left = c.in_ok-all.all.items; first = c.in_ok-all.ensures.found; second = (c.in_ok-all-2.ensures.found.0, (c.in_ok-all-2.ensures.found.1, same)) })

pub read_inner_expr-returns-then-room-eq0-clause-fails : goal.read_inner_expr-returns-then-room-eq0-clause-fails
read_inner_expr-returns-then-room-eq0-clause-fails t c = rw c.if-room-eq0.true (no_room Expr expr_name c.args.tokens.now c.args.from)

pub read_inner_expr-returns-in_err-e-clause-fails : goal.read_inner_expr-returns-in_err-e-clause-fails
read_inner_expr-returns-in_err-e-clause-fails t c = let h : faults c.args.room Expr expr_name c.args.tokens.now c.args.from c.in_err-e.field-0.0 = deeper_fails Expr expr_name c.args.room c.args.tokens.now c.args.from _ (omega arith) c.in_err-e.ensures.fails in search (rules, h)

pub read_inner_expr-returns-clause-found : goal.read_inner_expr-returns-clause-found
read_inner_expr-returns-clause-found t c = deeper Expr expr_name c.args.room c.args.tokens.now c.args.from _ _ (omega arith) c.in_ok-e.ensures.found

pub read_inner_unary-returns-then-room-eq0-clause-fails : goal.read_inner_unary-returns-then-room-eq0-clause-fails
read_inner_unary-returns-then-room-eq0-clause-fails t c = rw c.if-room-eq0.true (no_room Expr unary_name c.args.tokens.now c.args.from)

pub read_inner_unary-returns-in_err-e-clause-fails : goal.read_inner_unary-returns-in_err-e-clause-fails
read_inner_unary-returns-in_err-e-clause-fails t c = let h : faults c.args.room Expr unary_name c.args.tokens.now c.args.from c.in_err-e.field-0.0 = deeper_fails Expr unary_name c.args.room c.args.tokens.now c.args.from _ (omega arith) c.in_err-e.ensures.fails in search (rules, h)

pub read_inner_unary-returns-clause-found : goal.read_inner_unary-returns-clause-found
read_inner_unary-returns-clause-found t c = deeper Expr unary_name c.args.room c.args.tokens.now c.args.from _ _ (omega arith) c.in_ok-e.ensures.found

pub read_inner_right-returns-then-room-eq0-clause-fails : goal.read_inner_right-returns-then-room-eq0-clause-fails
read_inner_right-returns-then-room-eq0-clause-fails t c = rw c.if-room-eq0.true (no_room Expr right_name c.args.tokens.now c.args.from)

pub read_inner_right-returns-in_err-e-clause-fails : goal.read_inner_right-returns-in_err-e-clause-fails
read_inner_right-returns-in_err-e-clause-fails t c = let h : faults c.args.room Expr right_name c.args.tokens.now c.args.from c.in_err-e.field-0.0 = deeper_fails Expr right_name c.args.room c.args.tokens.now c.args.from _ (omega arith) c.in_err-e.ensures.fails in search (rules, h)

pub read_inner_right-returns-clause-found : goal.read_inner_right-returns-clause-found
read_inner_right-returns-clause-found t c = deeper Expr right_name c.args.room c.args.tokens.now c.args.from _ _ (omega arith) c.in_ok-e.ensures.found

pub read_expr_after-returns-in_err-e-in-None-clause-fails : goal.read_expr_after-returns-in_err-e-in-None-clause-fails
read_expr_after-returns-in_err-e-in-None-clause-fails t c = let h : Fails (inner c.args.room) (faults c.args.room) (expr_after c.args.pos c.args.first) c.args.tokens.now c.args.from c.in_err-e-in-None.field-0.0 = by_fails c.args.room c.args.tokens.now c.args.from (assigned_by right_form c.args.pos c.args.first) None (assign_of (sign_of (kind_at c.args.tokens.now c.args.from))) _ (search rules) c.in_err-e-in-None.ensures.fails in search (rules, h)

pub read_right_after-returns-in_err-e-in-None-clause-fails : goal.read_right_after-returns-in_err-e-in-None-clause-fails
read_right_after-returns-in_err-e-in-None-clause-fails t c = let h : Fails (inner c.args.room) (faults c.args.room) (right_after c.args.pos c.args.first) c.args.tokens.now c.args.from c.in_err-e-in-None.field-0.0 = by_fails c.args.room c.args.tokens.now c.args.from (assigned_by (inside right_name) c.args.pos c.args.first) None (assign_of (sign_of (kind_at c.args.tokens.now c.args.from))) _ (search rules) c.in_err-e-in-None.ensures.fails in search (rules, h)

pub read_level_after-returns-in_err-left-in-Some-clause-fails : goal.read_level_after-returns-in_err-left-in-Some-clause-fails
read_level_after-returns-in_err-left-in-Some-clause-fails t c = let h : Fails (inner c.args.room) (faults c.args.room) (level_after c.args.level c.args.pos c.args.first) c.args.tokens.now c.args.from c.in_err-left-in-Some.field-0.0 = after_fails c.args.room c.args.tokens.now c.args.from c.args.pos c.args.first c.args.level c.in-Some.inner _ (search rules) (inl c.in_err-left-in-Some.ensures.fails) in search (rules, h)

pub read_level_after-returns-in_err-e-in-Some-clause-fails : goal.read_level_after-returns-in_err-e-in-Some-clause-fails
read_level_after-returns-in_err-e-in-Some-clause-fails t c = let h : Fails (inner c.args.room) (faults c.args.room) (level_after c.args.level c.args.pos c.args.first) c.args.tokens.now c.args.from c.in_err-e-in-Some.field-0.0 = after_fails c.args.room c.args.tokens.now c.args.from c.args.pos c.args.first c.args.level c.in-Some.inner _ (search rules) (inr (inl (c.in_ok-left-in-Some.at, c.in_ok-left-in-Some.left, c.in_ok-left-in-Some.ensures.found, c.in_err-e-in-Some.ensures.fails))) in search (rules, h)

pub read_level_after-returns-in_ok-e-in-Some-clause-found : goal.read_level_after-returns-in_ok-e-in-Some-clause-found
read_level_after-returns-in_ok-e-in-Some-clause-found t c = after_found c.args.room c.args.tokens.now c.args.from c.args.pos c.args.first c.args.level c.in-Some.inner _ _ (search rules) (record { middle = c.in_ok-left-in-Some.at; left = c.in_ok-left-in-Some.left; first = c.in_ok-left-in-Some.ensures.found; second = c.in_ok-e-in-Some.ensures.found })

pub read_operand-returns-in_err-e-in-Some-clause-fails : goal.read_operand-returns-in_err-e-in-Some-clause-fails
read_operand-returns-in_err-e-in-Some-clause-fails t c = let h : Fails (inner c.args.room) (faults c.args.room) (operand_form c.args.level) c.args.tokens.now c.args.from c.in_err-e-in-Some.field-0.0 = operand_fails c.args.room c.args.tokens.now c.args.from c.args.level c.in-Some.inner _ (search rules) (inr (inl (c.in_ok-first.at, c.in_ok-first.first, c.in_ok-first.ensures.found, rw (← c.pos_at-pos.ensures) c.in_err-e-in-Some.ensures.fails))) in search (rules, h)

pub read_operand-returns-in_ok-e-in-Some-clause-found : goal.read_operand-returns-in_ok-e-in-Some-clause-found
read_operand-returns-in_ok-e-in-Some-clause-found t c = operand_found c.args.room c.args.tokens.now c.args.from c.args.level c.in-Some.inner _ _ (search rules) (record { middle = c.in_ok-first.at; left = c.in_ok-first.first; first = c.in_ok-first.ensures.found; second = rw (← c.pos_at-pos.ensures) c.in_ok-e-in-Some.ensures.found })

pub read_expr-returns-in_err-first-clause-fails : goal.read_expr-returns-in_err-first-clause-fails
read_expr-returns-in_err-first-clause-fails t c = let h : Fails (inner c.args.room) (faults c.args.room) expr_form c.args.tokens.now c.args.from c.in_err-first.field-0.0 = inl c.in_err-first.ensures.fails in
    let p = err_from_is_err_and c.from_residual.result c.from_residual.ensures.1 in rw (p.1, p.2) h

pub read_expr-returns-in_err-e-clause-fails : goal.read_expr-returns-in_err-e-clause-fails
read_expr-returns-in_err-e-clause-fails t c = let h : Fails (inner c.args.room) (faults c.args.room) expr_form c.args.tokens.now c.args.from c.in_err-e.field-0.0 = inr (inl (c.in_ok-first.at, c.in_ok-first.first, c.in_ok-first.ensures.found, subst (λ p. Fails (inner c.args.room) (faults c.args.room) (expr_after p c.in_ok-first.first) c.args.tokens.now c.in_ok-first.at c.in_err-e.field-0.0) c.pos_at-pos.ensures c.in_err-e.ensures.fails)) in
    let p = err_from_is_err_and c.from_residual-in_err-e.result c.from_residual-in_err-e.ensures.1 in rw (p.1, p.2) h

pub read_expr-returns-clause-found : goal.read_expr-returns-clause-found
read_expr-returns-clause-found t c = record { middle = c.in_ok-first.at; left = c.in_ok-first.first; first = c.in_ok-first.ensures.found; second = subst (λ p. Spells (inner c.args.room) (expr_after p c.in_ok-first.first) c.args.tokens.now c.in_ok-first.at c.in_ok-e.to c.in_ok-e.e) c.pos_at-pos.ensures c.in_ok-e.ensures.found }

pub read_right-returns-in_err-first-clause-fails : goal.read_right-returns-in_err-first-clause-fails
read_right-returns-in_err-first-clause-fails t c = let h : Fails (inner c.args.room) (faults c.args.room) right_form c.args.tokens.now c.args.from c.in_err-first.field-0.0 = inl c.in_err-first.ensures.fails in
    let p = err_from_is_err_and c.from_residual.result c.from_residual.ensures.1 in rw (p.1, p.2) h

pub read_right-returns-in_err-e-clause-fails : goal.read_right-returns-in_err-e-clause-fails
read_right-returns-in_err-e-clause-fails t c = let h : Fails (inner c.args.room) (faults c.args.room) right_form c.args.tokens.now c.args.from c.in_err-e.field-0.0 = inr (inl (c.in_ok-first.at, c.in_ok-first.first, c.in_ok-first.ensures.found, subst (λ p. Fails (inner c.args.room) (faults c.args.room) (right_after p c.in_ok-first.first) c.args.tokens.now c.in_ok-first.at c.in_err-e.field-0.0) c.pos_at-pos.ensures c.in_err-e.ensures.fails)) in
    let p = err_from_is_err_and c.from_residual-in_err-e.result c.from_residual-in_err-e.ensures.1 in rw (p.1, p.2) h

pub read_right-returns-clause-found : goal.read_right-returns-clause-found
read_right-returns-clause-found t c = record { middle = c.in_ok-first.at; left = c.in_ok-first.first; first = c.in_ok-first.ensures.found; second = subst (λ p. Spells (inner c.args.room) (right_after p c.in_ok-first.first) c.args.tokens.now c.in_ok-first.at c.in_ok-e.to c.in_ok-e.e) c.pos_at-pos.ensures c.in_ok-e.ensures.found }

pub read_postfix-returns-in_err-root-clause-fails : goal.read_postfix-returns-in_err-root-clause-fails
read_postfix-returns-in_err-root-clause-fails t c = let h : Fails (inner c.args.room) (faults c.args.room) postfix_form c.args.tokens.now c.args.from c.in_err-root.field-0.0 = inl c.in_err-root.ensures.fails in
    let p = err_from_is_err_and c.from_residual.result c.from_residual.ensures.1 in rw (p.1, p.2) h

pub read_postfix-returns-in_err-e-clause-fails : goal.read_postfix-returns-in_err-e-clause-fails
read_postfix-returns-in_err-e-clause-fails t c = let h : Fails (inner c.args.room) (faults c.args.room) postfix_form c.args.tokens.now c.args.from c.in_err-e.field-0.0 = inr (inl (c.in_ok-root.at, c.in_ok-root.root, c.in_ok-root.ensures.found, subst (λ p. Fails (inner c.args.room) (faults c.args.room) (postfix_after p c.in_ok-root.root) c.args.tokens.now c.in_ok-root.at c.in_err-e.field-0.0) c.pos_at-pos.ensures c.in_err-e.ensures.fails)) in
    let p = err_from_is_err_and c.from_residual-in_err-e.result c.from_residual-in_err-e.ensures.1 in rw (p.1, p.2) h

pub read_postfix-returns-clause-found : goal.read_postfix-returns-clause-found
read_postfix-returns-clause-found t c = record { middle = c.in_ok-root.at; left = c.in_ok-root.root; first = c.in_ok-root.ensures.found; second = rw (← c.pos_at-pos.ensures) c.in_ok-e.ensures.found }

pub read_expr_after-returns-in_err-first-in-Some-clause-fails : goal.read_expr_after-returns-in_err-first-in-Some-clause-fails
read_expr_after-returns-in_err-first-in-Some-clause-fails t c = let none : Fails (inner c.args.room) (faults c.args.room) right_form c.args.tokens.now (c.args.from + 1) c.in_err-first-in-Some.field-0.0 = search rules in
    let h : Fails (inner c.args.room) (faults c.args.room) (expr_after c.args.pos c.args.first) c.args.tokens.now c.args.from c.in_err-first-in-Some.field-0.0 = by_fails c.args.room c.args.tokens.now c.args.from (assigned_by right_form c.args.pos c.args.first) (Some c.in-Some.op) (assign_of (sign_of (kind_at c.args.tokens.now c.args.from))) _ (search rules) (inl none) in
    let p = err_from_is_err_and c.from_residual.result c.from_residual.ensures.1 in rw (p.1, p.2) h

pub read_right_after-returns-in_err-first-in-Some-clause-fails : goal.read_right_after-returns-in_err-first-in-Some-clause-fails
read_right_after-returns-in_err-first-in-Some-clause-fails t c = let none : Fails (inner c.args.room) (faults c.args.room) (inside right_name) c.args.tokens.now (c.args.from + 1) c.in_err-first-in-Some.field-0.0 = search rules in
    let h : Fails (inner c.args.room) (faults c.args.room) (right_after c.args.pos c.args.first) c.args.tokens.now c.args.from c.in_err-first-in-Some.field-0.0 = by_fails c.args.room c.args.tokens.now c.args.from (assigned_by (inside right_name) c.args.pos c.args.first) (Some c.in-Some.op) (assign_of (sign_of (kind_at c.args.tokens.now c.args.from))) _ (search rules) (inl none) in
    let p = err_from_is_err_and c.from_residual.result c.from_residual.ensures.1 in rw (p.1, p.2) h

pub read_chain_after-returns-in_err-first-clause-fails : goal.read_chain_after-returns-in_err-first-clause-fails
read_chain_after-returns-in_err-first-clause-fails t c = let none : Fails (inner c.args.room) (faults c.args.room) (links_form c.args.level) c.args.tokens.now c.args.from c.in_err-first.field-0.0 = search rules in
    let h : Fails (inner c.args.room) (faults c.args.room) (chain_after c.args.level (operand_form c.args.level) c.args.pos c.args.first) c.args.tokens.now c.args.from c.in_err-first.field-0.0 = inl none in
    let p = err_from_is_err_and c.from_residual.result c.from_residual.ensures.1 in rw (p.1, p.2) h

pub read_postfix_after-returns-in_err-root-clause-fails : goal.read_postfix_after-returns-in_err-root-clause-fails
read_postfix_after-returns-in_err-root-clause-fails t c = let none : Fails (inner c.args.room) (faults c.args.room) parts_form c.args.tokens.now c.args.from c.in_err-root.field-0.0 = search rules in
    let h : Fails (inner c.args.room) (faults c.args.room) (postfix_after c.args.pos c.args.root) c.args.tokens.now c.args.from c.in_err-root.field-0.0 = inl none in
    let p = err_from_is_err_and c.from_residual.result c.from_residual.ensures.1 in rw (p.1, p.2) h

pub read_links-returns-in_err-next-clause-fails : goal.read_links-returns-in_err-next-clause-fails
read_links-returns-in_err-next-clause-fails t c = let b : Begins (λ o. is_binary c.args.level (sign_of o)) c.args.tokens.now c.items.at = search rules in
    let h : Fails (inner c.args.room) (faults c.args.room) (links_form c.args.level) c.args.tokens.now c.args.from c.in_err-next.field-0.0 = inl (c.items.at, c.items.all.items, c.items.invariant.run, b, c.in_err-next.ensures.fails) in
    let p = err_from_is_err_and c.from_residual.result c.from_residual.ensures.1 in rw (p.1, p.2) h

pub read_parts-returns-in_err-next-clause-fails : goal.read_parts-returns-in_err-next-clause-fails
read_parts-returns-in_err-next-clause-fails t c = let b : Begins (λ o. is_part (sign_of o)) c.args.tokens.now c.items.at = search rules in
    let h : Fails (inner c.args.room) (faults c.args.room) parts_form c.args.tokens.now c.args.from c.in_err-next.field-0.0 = inl (c.items.at, c.items.all.items, c.items.invariant.run, b, c.in_err-next.ensures.fails) in
    let p = err_from_is_err_and c.from_residual.result c.from_residual.ensures.1 in rw (p.1, p.2) h

pub read_arguments-returns-in_err-first-clause-fails : goal.read_arguments-returns-in_err-first-clause-fails
read_arguments-returns-in_err-first-clause-fails t c = let h : Fails (inner c.args.room) (faults c.args.room) arguments_form c.args.tokens.now c.args.from c.in_err-first.field-0.0 = inl c.in_err-first.ensures.fails in
    let p = err_from_is_err_and c.from_residual.result c.from_residual.ensures.1 in rw (p.1, p.2) h

pub read_arguments-returns-in_err-next-clause-fails : goal.read_arguments-returns-in_err-next-clause-fails
read_arguments-returns-in_err-next-clause-fails t c = let b : Begins (λ o. is_comma (sign_of o)) c.args.tokens.now c.items.at = search rules in
    let h : Fails (inner c.args.room) (faults c.args.room) arguments_form c.args.tokens.now c.args.from c.in_err-next.field-0.0 = inr (inl (c.items.at, c.items.all.items, c.items.invariant.run, b, c.in_err-next.ensures.fails)) in
    let p = err_from_is_err_and c.from_residual-in_err-next.result c.from_residual-in_err-next.ensures.1 in rw (p.1, p.2) h

pub read_link-returns-in_err-right-in-Some-clause-fails : goal.read_link-returns-in_err-right-in-Some-clause-fails
read_link-returns-in_err-right-in-Some-clause-fails t c = let h : Fails (inner c.args.room) (faults c.args.room) (link_form c.args.level (operand_form c.args.level)) c.args.tokens.now c.args.from c.in_err-right-in-Some.field-0.0 = by_fails c.args.room c.args.tokens.now c.args.from (link_by (operand_form c.args.level)) (Some c.in-Some.op) (binary_of c.args.level (sign_of (kind_at c.args.tokens.now c.args.from))) _ (search rules) (inl c.in_err-right-in-Some.ensures.fails) in
    let p = err_from_is_err_and c.from_residual.result c.from_residual.ensures.1 in rw (p.1, p.2) h

pub read_unary-returns-in_err-operand-in-Some-clause-fails : goal.read_unary-returns-in_err-operand-in-Some-clause-fails
read_unary-returns-in_err-operand-in-Some-clause-fails t c = let h : Fails (inner c.args.room) (faults c.args.room) unary_form c.args.tokens.now c.args.from c.in_err-operand-in-Some.field-0.0 = by_fails c.args.room c.args.tokens.now c.args.from unary_by (Some c.in-Some.op) (unary_of (sign_of (kind_at c.args.tokens.now c.args.from))) _ (search rules) (inl c.in_err-operand-in-Some.ensures.fails) in
    let p = err_from_is_err_and c.from_residual.result c.from_residual.ensures.1 in rw (p.1, p.2) h

pub read_unary-returns-in_err-e-in-None-clause-fails : goal.read_unary-returns-in_err-e-in-None-clause-fails
read_unary-returns-in_err-e-in-None-clause-fails t c = let h : Fails (inner c.args.room) (faults c.args.room) unary_form c.args.tokens.now c.args.from c.in_err-e-in-None.field-0.0 = by_fails c.args.room c.args.tokens.now c.args.from unary_by None (unary_of (sign_of (kind_at c.args.tokens.now c.args.from))) _ (search rules) c.in_err-e-in-None.ensures.fails in
    let p = err_from_is_err_and c.from_residual-in_err-e-in-None.result c.from_residual-in_err-e-in-None.ensures.1 in rw (p.1, p.2) h

pub read_primary-returns-in_err-e-in-Some-Sign-OpenParen-clause-fails : goal.read_primary-returns-in_err-e-in-Some-Sign-OpenParen-clause-fails
read_primary-returns-in_err-e-in-Some-Sign-OpenParen-clause-fails t c = let h : Fails (inner c.args.room) (faults c.args.room) primary_form c.args.tokens.now c.args.from c.in_err-e-in-Some-Sign-OpenParen.field-0.0 = by_fails c.args.room c.args.tokens.now c.args.from (primary_at (pos_at c.args.tokens.now c.args.from)) (Some (token.Sign sign.OpenParen)) (kind_at c.args.tokens.now c.args.from) _ (search rules) (inl c.in_err-e-in-Some-Sign-OpenParen.ensures.fails) in
    let p = err_from_is_err_and c.from_residual-in_err-e-in-Some-Sign-OpenParen.result c.from_residual-in_err-e-in-Some-Sign-OpenParen.ensures.1 in rw (p.1, p.2) h

pub read_primary-returns-in_err-e-in-Some-Sign-OpenParen-2-clause-fails : goal.read_primary-returns-in_err-e-in-Some-Sign-OpenParen-2-clause-fails
read_primary-returns-in_err-e-in-Some-Sign-OpenParen-2-clause-fails t c = let h : Fails (inner c.args.room) (faults c.args.room) primary_form c.args.tokens.now c.args.from c.in_err-e-in-Some-Sign-OpenParen-2.field-0.0 = by_fails c.args.room c.args.tokens.now c.args.from (primary_at (pos_at c.args.tokens.now c.args.from)) (Some (token.Sign sign.OpenParen)) (kind_at c.args.tokens.now c.args.from) _ (search rules) (inr (inl (c.in_ok-e-in-Some-Sign-OpenParen.at, c.in_ok-e-in-Some-Sign-OpenParen.e, c.in_ok-e-in-Some-Sign-OpenParen.ensures.found, inl c.in_err-e-in-Some-Sign-OpenParen-2.ensures.fails))) in
    let p = err_from_is_err_and c.from_residual-in_err-e-in-Some-Sign-OpenParen-2.result c.from_residual-in_err-e-in-Some-Sign-OpenParen-2.ensures.1 in rw (p.1, p.2) h
