use Rattle.std.proofs.Common.{inl, inr}
use Rattle.std.proofs.lemmas.Result.{err_from_is_err_and}
use Rattle.uc_grammar.specs.Form.{Fails}
use Rattle.uc_grammar.specs.Grammar.{fields_rest, inner, faults}
use Rattle.uc_parse_class.proofs.member.read_fields_rest.Goals as goal

pub returns-in_err-declarators-clause-fails : goal.returns-in_err-declarators-clause-fails
returns-in_err-declarators-clause-fails c = let h : Fails (inner c.args.room) (faults c.args.room) (fields_rest c.args.place c.args.base c.args.start.pos c.args.start.by_ref c.args.start.name) c.args.tokens.now c.args.from c.in_err-declarators.field-0.0 = inl (inl c.in_err-declarators.ensures.fails) in
    let p = err_from_is_err_and c.from_residual.result c.from_residual.ensures.1 in rw (p.1, p.2) h

pub returns-in_err-to-clause-fails : goal.returns-in_err-to-clause-fails
returns-in_err-to-clause-fails c = let h : Fails (inner c.args.room) (faults c.args.room) (fields_rest c.args.place c.args.base c.args.start.pos c.args.start.by_ref c.args.start.name) c.args.tokens.now c.args.from c.in_err-to.field-0.0 = inl (inr (inl (c.in_ok-declarators.at, c.in_ok-declarators.declarators.items, c.in_ok-declarators.ensures.found, inl c.in_err-to.ensures.fails))) in
    let p = err_from_is_err_and c.from_residual-in_err-to.result c.from_residual-in_err-to.ensures.1 in rw (p.1, p.2) h
