use Rattle.uc_parse_simple.proofs.Steps.{behind_fails}
use Rattle.uc_tree.specs.declared.token.TokenKind.TheVariants as token
use Rattle.uc_tree.specs.declared.token.Sign.TheVariants as sign
use Rattle.uc_grammar.specs.Grammar.{before, condition_form, expr_form, inner, faults}
use Rattle.std.proofs.lemmas.Result.{err_from_is_err_and}
use Rattle.uc_grammar.specs.Form.{Fails}
use Rattle.std.proofs.Common.{inl, inr}
use Rattle.uc_parse_simple.proofs.event.read_condition.Goals as goal

pub returns-in_err-test-clause-fails : goal.returns-in_err-test-clause-fails
returns-in_err-test-clause-fails c = let h : Fails (inner c.args.room) (faults c.args.room) condition_form c.args.tokens.now c.args.from c.in_err-test.field-0.0 = behind_fails c.args.room c.args.tokens.now (token.Sign sign.OpenParen) (before expr_form sign.CloseParen) c.args.from c.in_ok-at.at _ c.in_ok-at.ensures.found (inl c.in_err-test.ensures.fails) in
    let p = err_from_is_err_and c.from_residual-in_err-test.result c.from_residual-in_err-test.ensures.1 in rw (p.1, p.2) h

pub returns-in_err-test-2-clause-fails : goal.returns-in_err-test-2-clause-fails
returns-in_err-test-2-clause-fails c = let h : Fails (inner c.args.room) (faults c.args.room) condition_form c.args.tokens.now c.args.from c.in_err-test-2.field-0.0 = behind_fails c.args.room c.args.tokens.now (token.Sign sign.OpenParen) (before expr_form sign.CloseParen) c.args.from c.in_ok-at.at _ c.in_ok-at.ensures.found (inr (inl (c.in_ok-test.end, c.in_ok-test.test, c.in_ok-test.ensures.found, inl c.in_err-test-2.ensures.fails))) in
    let p = err_from_is_err_and c.from_residual-in_err-test-2.result c.from_residual-in_err-test-2.ensures.1 in rw (p.1, p.2) h
