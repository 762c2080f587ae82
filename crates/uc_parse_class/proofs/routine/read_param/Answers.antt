use Rattle.std.proofs.Common.{inl, inr, ap}
use Rattle.std.proofs.lemmas.Result.{err_from_is_err_and}
use Rattle.uc_grammar.specs.Form.{Fails}
use Rattle.uc_grammar.specs.Grammar.{param_form, param_of, inner, faults}
use Rattle.uc_parse_class.proofs.routine.read_param.Goals as goal

pub returns-in_err-name-clause-fails : goal.returns-in_err-name-clause-fails
returns-in_err-name-clause-fails c = let h : Fails (inner c.args.room) (faults c.args.room) param_form c.args.tokens.now c.args.from c.in_err-name.field-0.0 = inr (inl (c.in_ok-base.at, c.in_ok-base.base, c.in_ok-base.ensures.found, inr (inl (c.skip_sign-by_ref.result.1, c.skip_sign-by_ref.result.0, c.skip_sign-by_ref.ensures.found c.args.room, inl (c.in_err-name.ensures.fails c.args.room))))) in
    let p = err_from_is_err_and c.from_residual-in_err-name.result c.from_residual-in_err-name.ensures.1 in rw (p.1, p.2) h

pub returns-clause-found : goal.returns-clause-found
returns-clause-found c = record { middle = c.in_ok-base.at; left = c.in_ok-base.base; first = c.in_ok-base.ensures.found; second = record { middle = c.skip_sign-by_ref.result.1; left = c.skip_sign-by_ref.result.0; first = c.skip_sign-by_ref.ensures.found c.args.room; second = record { inside = c.in_ok-name.name; spelled = c.in_ok-name.ensures.found c.args.room; value = ap (λ p. param_of p c.in_ok-base.base c.skip_sign-by_ref.result.0 c.in_ok-name.name) c.pos_at-pos.ensures } } }
