use Rattle.std.proofs.Common.{inl, inr, refl}
use Rattle.std.proofs.lemmas.Result.{err_from_is_err_and}
use Rattle.uc_grammar.specs.Form.{Fails}
use Rattle.uc_grammar.specs.Grammar.{class_rest, inner, faults}
use Rattle.uc_parse_class.proofs.class.read_class_rest.Goals as goal

pub returns-in_err-to-clause-fails : goal.returns-in_err-to-clause-fails
returns-in_err-to-clause-fails c = let h : Fails (inner c.args.room) (faults c.args.room) (class_rest c.args.pos c.args.kind c.args.name) c.args.tokens.now c.args.from c.in_err-to.field-0.0 = inl (inr (inl (c.in_ok-end.end, c.in_ok-members.ensures.found.inside, record { middle = c.in_ok-members.at; left = c.in_ok-members.ensures.found.inside; first = c.in_ok-members.ensures.found.spelled; second = (c.in_ok-end.ensures.found.0, (c.in_ok-end.ensures.found.1, refl)) }, inl c.in_err-to.ensures.fails))) in
    let p = err_from_is_err_and c.from_residual-in_err-to.result c.from_residual-in_err-to.ensures.1 in rw (p.1, p.2) h
