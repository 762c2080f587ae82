use Rattle.uc_grammar.specs.Grammar.{outs_form, inner, faults}
use Rattle.std.proofs.lemmas.Result.{err_from_is_err_and}
use Rattle.uc_grammar.specs.Form.{Fails}
use Rattle.std.proofs.Common.{inl, inr}
use Rattle.uc_parse_simple.proofs.print.read_outs.Goals as goal

pub returns-in_err-items-clause-fails : goal.returns-in_err-items-clause-fails
returns-in_err-items-clause-fails c = let h : Fails (inner c.args.room) (faults c.args.room) outs_form c.args.tokens.now c.args.from c.in_err-items.field-0.0 = inl c.in_err-items.ensures.fails in
    let p = err_from_is_err_and c.from_residual.result c.from_residual.ensures.1 in rw (p.1, p.2) h

pub returns-in_err-items-2-clause-fails : goal.returns-in_err-items-2-clause-fails
returns-in_err-items-2-clause-fails c = let h : Fails (inner c.args.room) (faults c.args.room) outs_form c.args.tokens.now c.args.from c.in_err-items-2.field-0.0 = inr (inl (c.in_ok-items.at, c.in_ok-items.items.items, c.in_ok-items.ensures.found, inl c.in_err-items-2.ensures.fails)) in
    let p = err_from_is_err_and c.from_residual-in_err-items-2.result c.from_residual-in_err-items-2.ensures.1 in rw (p.1, p.2) h
