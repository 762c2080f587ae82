use Rattle.uc_grammar.specs.Grammar.{class_form, inner, faults}
use Rattle.std.proofs.lemmas.Result.{err_from_is_err_and}
use Rattle.uc_grammar.specs.Form.{Fails}
use Rattle.std.proofs.Common.{inl, inr}
use Rattle.uc_parse_class.proofs.class.read_class.Goals as goal

pub returns-in_err-kind-clause-fails : goal.returns-in_err-kind-clause-fails
returns-in_err-kind-clause-fails c = let h : Fails (inner c.args.room) (faults c.args.room) (class_form c.args.pos) c.args.tokens.now c.args.from c.in_err-kind.field-0.0 = inl (c.in_err-kind.ensures.fails c.args.room) in
    let p = err_from_is_err_and c.from_residual.result c.from_residual.ensures.1 in rw (p.1, p.2) h

pub returns-in_err-name-clause-fails : goal.returns-in_err-name-clause-fails
returns-in_err-name-clause-fails c = let h : Fails (inner c.args.room) (faults c.args.room) (class_form c.args.pos) c.args.tokens.now c.args.from c.in_err-name.field-0.0 = inr (inl (c.in_ok-kind.at, c.in_ok-kind.kind, c.in_ok-kind.ensures.found c.args.room, inl (c.in_err-name.ensures.fails c.args.room))) in
    let p = err_from_is_err_and c.from_residual-in_err-name.result c.from_residual-in_err-name.ensures.1 in rw (p.1, p.2) h

pub returns-in_err-item-clause-fails : goal.returns-in_err-item-clause-fails
returns-in_err-item-clause-fails c = let h : Fails (inner c.args.room) (faults c.args.room) (class_form c.args.pos) c.args.tokens.now c.args.from c.in_err-item.field-0.0 = inr (inl (c.in_ok-kind.at, c.in_ok-kind.kind, c.in_ok-kind.ensures.found c.args.room, inr (inl (c.in_ok-name.end, c.in_ok-name.name, c.in_ok-name.ensures.found c.args.room, c.in_err-item.ensures.fails)))) in
    let p = err_from_is_err_and c.from_residual-in_err-item.result c.from_residual-in_err-item.ensures.1 in rw (p.1, p.2) h
