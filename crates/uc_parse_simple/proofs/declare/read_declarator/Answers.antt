use Rattle.uc_grammar.specs.Grammar.{declarator_form, start_form, inner, faults}
use Rattle.std.proofs.lemmas.Result.{err_from_is_err_and}
use Rattle.uc_grammar.specs.Form.{Fails}
use Rattle.std.proofs.Common.{inl, inr, rules}
use Rattle.uc_parse_simple.proofs.declare.read_declarator.Goals as goal

pub returns-in_err-name-clause-fails : goal.returns-in_err-name-clause-fails
returns-in_err-name-clause-fails c = let h : Fails (inner c.args.room) (faults c.args.room) declarator_form c.args.tokens.now c.args.from c.in_err-name.field-0.0 = inl (c.in_err-name.ensures.fails c.args.room) in
    let p = err_from_is_err_and c.from_residual.result c.from_residual.ensures.1 in rw (p.1, p.2) h

pub returns-in_err-len-clause-fails : goal.returns-in_err-len-clause-fails
returns-in_err-len-clause-fails c = let h : Fails (inner c.args.room) (faults c.args.room) declarator_form c.args.tokens.now c.args.from c.in_err-len.field-0.0 = inr (inl (c.in_ok-name.at, c.in_ok-name.name, c.in_ok-name.ensures.found c.args.room, inl c.in_err-len.ensures.fails)) in
    let p = err_from_is_err_and c.from_residual-in_err-len.result c.from_residual-in_err-len.ensures.1 in rw (p.1, p.2) h

pub returns-in_err-len-2-clause-fails : goal.returns-in_err-len-2-clause-fails
returns-in_err-len-2-clause-fails c = let none : Fails (inner c.args.room) (faults c.args.room) start_form c.args.tokens.now c.in_ok-len.end c.in_err-len-2.field-0.0 = search rules in
    let h : Fails (inner c.args.room) (faults c.args.room) declarator_form c.args.tokens.now c.args.from c.in_err-len-2.field-0.0 = inr (inl (c.in_ok-name.at, c.in_ok-name.name, c.in_ok-name.ensures.found c.args.room, inr (inl (c.in_ok-len.end, c.in_ok-len.len, c.in_ok-len.ensures.found, inl none)))) in
    let p = err_from_is_err_and c.from_residual-in_err-len-2.result c.from_residual-in_err-len-2.ensures.1 in rw (p.1, p.2) h
