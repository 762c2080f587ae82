use Rattle.std.proofs.Common.{inl, inr}
use Rattle.std.proofs.lemmas.Result.{err_from_is_err_and}
use Rattle.uc_grammar.specs.Form.{Fails}
use Rattle.uc_grammar.specs.Grammar.{member_maker, inner, faults}
use Rattle.uc_parse_class.proofs.member.read_member_maker.Goals as goal

pub returns-in_err-params-clause-fails : goal.returns-in_err-params-clause-fails
returns-in_err-params-clause-fails c = let h : Fails (inner c.args.room) (faults c.args.room) (member_maker c.args.pos c.args.role c.args.name) c.args.tokens.now c.args.from c.in_err-params.field-0.0 = inl c.in_err-params.ensures.fails in
    let p = err_from_is_err_and c.from_residual.result c.from_residual.ensures.1 in rw (p.1, p.2) h

pub returns-in_err-form-clause-fails : goal.returns-in_err-form-clause-fails
returns-in_err-form-clause-fails c = let h : Fails (inner c.args.room) (faults c.args.room) (member_maker c.args.pos c.args.role c.args.name) c.args.tokens.now c.args.from c.in_err-form.field-0.0 = inr (inl (c.in_ok-params.at, c.in_ok-params.params.items, c.in_ok-params.ensures.found, c.in_err-form.ensures.fails)) in
    let p = err_from_is_err_and c.from_residual-in_err-form.result c.from_residual-in_err-form.ensures.1 in rw (p.1, p.2) h
