use Rattle.std.proofs.Common.{inl, inr, refl}
use Rattle.std.proofs.lemmas.Result.{err_from_is_err_and}
use Rattle.uc_grammar.specs.Form.{Fails}
use Rattle.uc_grammar.specs.Grammar.{member_name_form, inner, faults}
use Rattle.uc_parse_simple.proofs.event.read_member_name.Goals as goal

pub returns-in_err-name-clause-fails : goal.returns-in_err-name-clause-fails
returns-in_err-name-clause-fails c = let h : Fails (inner c.args.room) (faults c.args.room) member_name_form c.args.tokens.now c.args.from c.in_err-name.field-0.0 = inr (inl (c.skip_sign-destructor.result.1, c.skip_sign-destructor.result.0, c.skip_sign-destructor.ensures.found c.args.room, inl (c.in_err-name.ensures.fails c.args.room))) in let p = err_from_is_err_and c.from_residual.result c.from_residual.ensures.1 in rw (p.1, p.2) h

pub returns-clause-found : goal.returns-clause-found
returns-clause-found c = record { middle = c.skip_sign-destructor.result.1; left = c.skip_sign-destructor.result.0; first = c.skip_sign-destructor.ensures.found c.args.room; second = record { inside = c.in_ok-name.name; spelled = c.in_ok-name.ensures.found c.args.room; value = refl } }
