use Rattle.std.proofs.lemmas.Result.{err_from_is_err_and}
use Rattle.uc_grammar.specs.Form.{Fails}
use Rattle.uc_grammar.specs.Grammar.{params_rest, params_form, inner, faults}
use Rattle.uc_parse_simple.proofs.Steps.{behind_fails}
use Rattle.uc_tree.specs.declared.token.TokenKind.TheVariants as token
use Rattle.uc_tree.specs.declared.token.Sign.TheVariants as sign
use Rattle.uc_parse_class.proofs.routine.read_params.Goals as goal

pub returns-in_err-all-clause-fails : goal.returns-in_err-all-clause-fails
returns-in_err-all-clause-fails c = let h : Fails (inner c.args.room) (faults c.args.room) params_form c.args.tokens.now c.args.from c.in_err-all.field-0.0 = behind_fails c.args.room c.args.tokens.now (token.Sign sign.OpenParen) params_rest c.args.from c.in_ok-at.at _ c.in_ok-at.ensures.found c.in_err-all.ensures.fails in
    let p = err_from_is_err_and c.from_residual-in_err-all.result c.from_residual-in_err-all.ensures.1 in rw (p.1, p.2) h
