use Rattle.std.proofs.Common.{inl, inr}
use Rattle.std.proofs.lemmas.Result.{err_from_is_err_and}
use Rattle.uc_grammar.specs.Form.{Fails}
use Rattle.uc_grammar.specs.Grammar.{outer_maker, inner, faults}
use Rattle.uc_parse_class.proofs.item.read_outer_maker.Goals as goal

pub returns-in_err-name-clause-fails : goal.returns-in_err-name-clause-fails
returns-in_err-name-clause-fails c = let h : Fails (inner c.args.room) (faults c.args.room) (outer_maker c.args.pos c.args.class) c.args.tokens.now c.args.from c.in_err-name.field-0.0 = inr (inl (c.skip_sign-destructor.result.1, c.skip_sign-destructor.result.0, c.skip_sign-destructor.ensures.found c.args.room, inl (c.in_err-name.ensures.fails c.args.room))) in
    let p = err_from_is_err_and c.from_residual.result c.from_residual.ensures.1 in rw (p.1, p.2) h

pub returns-in_err-item-clause-fails : goal.returns-in_err-item-clause-fails
returns-in_err-item-clause-fails c = let h : Fails (inner c.args.room) (faults c.args.room) (outer_maker c.args.pos c.args.class) c.args.tokens.now c.args.from c.in_err-item.field-0.0 = inr (inl (c.skip_sign-destructor.result.1, c.skip_sign-destructor.result.0, c.skip_sign-destructor.ensures.found c.args.room, inr (inl (c.in_ok-name.end, c.in_ok-name.name, c.in_ok-name.ensures.found c.args.room, c.in_err-item.ensures.fails)))) in
    let p = err_from_is_err_and c.from_residual-in_err-item.result c.from_residual-in_err-item.ensures.1 in rw (p.1, p.2) h

pub returns-clause-found : goal.returns-clause-found
returns-clause-found c = record { middle = c.skip_sign-destructor.result.1; left = c.skip_sign-destructor.result.0; first = c.skip_sign-destructor.ensures.found c.args.room; second = record { middle = c.in_ok-name.end; left = c.in_ok-name.name; first = c.in_ok-name.ensures.found c.args.room; second = c.in_ok-item.ensures.found } }
