use Rattle.std.proofs.Common.{inl, inr}
use Rattle.std.proofs.lemmas.Result.{err_from_is_err_and}
use Rattle.uc_grammar.specs.Form.{Fails}
use Rattle.uc_grammar.specs.Grammar.{maker_form, inner, faults}
use Rattle.uc_parse_class.proofs.routine.read_maker.Goals as goal

pub returns-in_err-inits-clause-fails : goal.returns-in_err-inits-clause-fails
returns-in_err-inits-clause-fails c = let h : Fails (inner c.args.room) (faults c.args.room) (maker_form c.args.sig) c.args.tokens.now c.args.from c.in_err-inits.field-0.0 = inl c.in_err-inits.ensures.fails in
    let p = err_from_is_err_and c.from_residual.result c.from_residual.ensures.1 in rw (p.1, p.2) h

pub returns-in_err-block-clause-fails : goal.returns-in_err-block-clause-fails
returns-in_err-block-clause-fails c = let h : Fails (inner c.args.room) (faults c.args.room) (maker_form c.args.sig) c.args.tokens.now c.args.from c.in_err-block.field-0.0 = inr (inl (c.in_ok-inits.at, c.in_ok-inits.inits.items, c.in_ok-inits.ensures.found, inl c.in_err-block.ensures.fails)) in
    let p = err_from_is_err_and c.from_residual-in_err-block.result c.from_residual-in_err-block.ensures.1 in rw (p.1, p.2) h
