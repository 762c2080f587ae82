use Rattle.std.proofs.Common.{inl, inr, refl}
use Rattle.std.proofs.lemmas.Result.{err_from_is_err_and}
use Rattle.uc_grammar.specs.Form.{Fails}
use Rattle.uc_grammar.specs.Grammar.{inner, faults}
use Rattle.uc_parse_simple.specs.Forms.{one_event_form}
use Rattle.uc_parse_simple.proofs.event.read_one_event.Goals as goal

pub returns-in_err-param-clause-fails : goal.returns-in_err-param-clause-fails
returns-in_err-param-clause-fails c = let h : Fails (inner c.args.room) (faults c.args.room) one_event_form c.args.tokens.now c.args.from c.in_err-param.field-0.0 = inr (inl (c.in_ok-name.at, c.in_ok-name.name, c.in_ok-name.ensures.found c.args.room, inr (inl (c.skip_sign-after.result.1, c.skip_sign-after.result.0, c.skip_sign-after.ensures.found c.args.room, inl c.in_err-param.ensures.fails)))) in let p = err_from_is_err_and c.from_residual-in_err-param.result c.from_residual-in_err-param.ensures.1 in rw (p.1, p.2) h

pub returns-clause-found : goal.returns-clause-found
returns-clause-found c = record { middle = c.in_ok-name.at; left = c.in_ok-name.name; first = c.in_ok-name.ensures.found c.args.room; second = record { middle = c.skip_sign-after.result.1; left = c.skip_sign-after.result.0; first = c.skip_sign-after.ensures.found c.args.room; second = record { inside = c.in_ok-param.param; spelled = c.in_ok-param.ensures.found; value = refl } } }
