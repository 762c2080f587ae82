use Rattle.uc_tree.specs.declared.token.Sign.TheVariants as sign
use Rattle.uc_grammar.specs.Grammar.{start_at, start_form, inner, faults}
use Rattle.uc_grammar.specs.Spell.{kind_at}
use Rattle.uc_parse_expr.proofs.Steps.{by_fails}
use Rattle.uc_grammar.specs.Tables.{sign_of}
use Rattle.std.proofs.Common.{Some, rules, inl, inr}
use Rattle.std.proofs.lemmas.Result.{err_from_is_err_and}
use Rattle.uc_grammar.specs.Form.{Fails}
use Rattle.uc_parse_simple.proofs.declare.read_start.Goals as goal

pub returns-in_err-value-in-Some-Assign-clause-fails : goal.returns-in_err-value-in-Some-Assign-clause-fails
returns-in_err-value-in-Some-Assign-clause-fails c = let h : Fails (inner c.args.room) (faults c.args.room) start_form c.args.tokens.now c.args.from c.in_err-value-in-Some-Assign.field-0.0 = by_fails c.args.room c.args.tokens.now c.args.from start_at (Some sign.Assign) (sign_of (kind_at c.args.tokens.now c.args.from)) _ (search rules) (inl c.in_err-value-in-Some-Assign.ensures.fails) in
    let p = err_from_is_err_and c.from_residual.result c.from_residual.ensures.1 in rw (p.1, p.2) h

pub returns-in_err-args-in-Some-OpenParen-clause-fails : goal.returns-in_err-args-in-Some-OpenParen-clause-fails
returns-in_err-args-in-Some-OpenParen-clause-fails c = let h : Fails (inner c.args.room) (faults c.args.room) start_form c.args.tokens.now c.args.from c.in_err-args-in-Some-OpenParen.field-0.0 = by_fails c.args.room c.args.tokens.now c.args.from start_at (Some sign.OpenParen) (sign_of (kind_at c.args.tokens.now c.args.from)) _ (search rules) (inl (inl c.in_err-args-in-Some-OpenParen.ensures.fails)) in
    let p = err_from_is_err_and c.from_residual-in_err-args-in-Some-OpenParen.result c.from_residual-in_err-args-in-Some-OpenParen.ensures.1 in rw (p.1, p.2) h

pub returns-in_err-args-in-Some-OpenParen-2-clause-fails : goal.returns-in_err-args-in-Some-OpenParen-2-clause-fails
returns-in_err-args-in-Some-OpenParen-2-clause-fails c = let h : Fails (inner c.args.room) (faults c.args.room) start_form c.args.tokens.now c.args.from c.in_err-args-in-Some-OpenParen-2.field-0.0 = by_fails c.args.room c.args.tokens.now c.args.from start_at (Some sign.OpenParen) (sign_of (kind_at c.args.tokens.now c.args.from)) _ (search rules) (inl (inr (inl (c.in_ok-args-in-Some-OpenParen.at, c.in_ok-args-in-Some-OpenParen.args.items, c.in_ok-args-in-Some-OpenParen.ensures.found, inl c.in_err-args-in-Some-OpenParen-2.ensures.fails)))) in
    let p = err_from_is_err_and c.from_residual-in_err-args-in-Some-OpenParen-2.result c.from_residual-in_err-args-in-Some-OpenParen-2.ensures.1 in rw (p.1, p.2) h

pub returns-in_err-args-in-Some-OpenBrace-clause-fails : goal.returns-in_err-args-in-Some-OpenBrace-clause-fails
returns-in_err-args-in-Some-OpenBrace-clause-fails c = let h : Fails (inner c.args.room) (faults c.args.room) start_form c.args.tokens.now c.args.from c.in_err-args-in-Some-OpenBrace.field-0.0 = by_fails c.args.room c.args.tokens.now c.args.from start_at (Some sign.OpenBrace) (sign_of (kind_at c.args.tokens.now c.args.from)) _ (search rules) (inl c.in_err-args-in-Some-OpenBrace.ensures.fails) in
    let p = err_from_is_err_and c.from_residual-in_err-args-in-Some-OpenBrace.result c.from_residual-in_err-args-in-Some-OpenBrace.ensures.1 in rw (p.1, p.2) h
