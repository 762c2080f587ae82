use Rattle.std.proofs.Common.{inl, inr, subst}
use Rattle.std.proofs.lemmas.Result.{err_from_is_err_and}
use Rattle.uc_grammar.specs.Form.{Spells, Fails}
use Rattle.uc_grammar.specs.Grammar.{field_rest, field_form, inner, faults}
use Rattle.uc_parse_class.proofs.member.read_field.Goals as goal

pub returns-in_err-name-clause-fails : goal.returns-in_err-name-clause-fails
returns-in_err-name-clause-fails c = let h : Fails (inner c.args.room) (faults c.args.room) field_form c.args.tokens.now c.args.from c.in_err-name.field-0.0 = inr (inl (c.skip_sign-by_ref.result.1, c.skip_sign-by_ref.result.0, c.skip_sign-by_ref.ensures.found c.args.room, inl (c.in_err-name.ensures.fails c.args.room))) in
    let p = err_from_is_err_and c.from_residual.result c.from_residual.ensures.1 in rw (p.1, p.2) h

pub returns-in_err-field-clause-fails : goal.returns-in_err-field-clause-fails
returns-in_err-field-clause-fails c = let h : Fails (inner c.args.room) (faults c.args.room) field_form c.args.tokens.now c.args.from c.in_err-field.field-0.0 = inr (inl (c.skip_sign-by_ref.result.1, c.skip_sign-by_ref.result.0, c.skip_sign-by_ref.ensures.found c.args.room, inr (inl (c.in_ok-name.end, c.in_ok-name.name, c.in_ok-name.ensures.found c.args.room, c.in_err-field.ensures.fails)))) in
    let p = err_from_is_err_and c.from_residual-in_err-field.result c.from_residual-in_err-field.ensures.1 in rw (p.1, p.2) h

pub returns-clause-found : goal.returns-clause-found
returns-clause-found c = let field = subst (λ p. Spells (inner c.args.room) (field_rest p c.skip_sign-by_ref.result.0 c.in_ok-name.name) c.args.tokens.now c.in_ok-name.end c.in_ok-field.to c.in_ok-field.field) c.pos_at-pos.ensures c.in_ok-field.ensures.found in
    record { middle = c.skip_sign-by_ref.result.1; left = c.skip_sign-by_ref.result.0; first = c.skip_sign-by_ref.ensures.found c.args.room; second = record { middle = c.in_ok-name.end; left = c.in_ok-name.name; first = c.in_ok-name.ensures.found c.args.room; second = field } }
