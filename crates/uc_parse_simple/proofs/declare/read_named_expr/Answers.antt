use Rattle.std.proofs.Common.{rules, ◌≡◌, inl, subst}
use Rattle.std.proofs.lemmas.Result.{err_from_is_err_and}
use Rattle.uc_tree.specs.Expressions as expr
use Rattle.uc_grammar.specs.Form.{Fails}
use Rattle.uc_grammar.specs.Grammar.{expr_from, inner, faults}
use Rattle.uc_parse_simple.specs.Forms.{named_expr}
use Rattle.uc_parse_simple.proofs.declare.read_named_expr.Goals as goal

pub returns-in_err-value-clause-fails : goal.returns-in_err-value-clause-fails
returns-in_err-value-clause-fails c = let e : c.in_ok-copy.copy ≡ c.args.name.now = search rules in
    let g : Fails (inner c.args.room) (faults c.args.room) (expr_from c.args.pos (expr.Name c.args.pos c.in_ok-copy.copy)) c.args.tokens.now c.args.from c.in_err-value.field-0.0 = c.in_err-value.ensures.fails in
    let h : Fails (inner c.args.room) (faults c.args.room) (named_expr c.args.pos c.args.name.now) c.args.tokens.now c.args.from c.in_err-value.field-0.0 = inl (subst (λ n. Fails (inner c.args.room) (faults c.args.room) (expr_from c.args.pos (expr.Name c.args.pos n)) c.args.tokens.now c.args.from c.in_err-value.field-0.0) e g) in
    let p = err_from_is_err_and c.from_residual-in_err-value.result c.from_residual-in_err-value.ensures.1 in rw (p.1, p.2) h
