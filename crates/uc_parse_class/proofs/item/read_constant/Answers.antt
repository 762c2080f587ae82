use Rattle.std.proofs.Common.{rules, ◌≡◌, inl, inr, refl}
use Rattle.std.proofs.lemmas.Result.{err_from_is_err_and}
use Rattle.uc_grammar.specs.Form.{Spells, Fails}
use Rattle.uc_grammar.specs.Grammar.{constant_rest, inner, faults}
use Rattle.uc_parse_class.specs.Forms.{value_form}
use Rattle.uc_parse_class.proofs.Constants.{value_fails}
use Rattle.uc_parse_class.proofs.item.read_constant.Goals as goal

pub returns-in_err-name-2-clause-fails : goal.returns-in_err-name-2-clause-fails
returns-in_err-name-2-clause-fails c = let none : Fails (inner c.args.room) (faults c.args.room) value_form c.args.tokens.now c.in_ok-name.end c.in_err-name-2.field-0.0 = search rules in
    let h : Fails (inner c.args.room) (faults c.args.room) (constant_rest c.args.pos) c.args.tokens.now c.args.from c.in_err-name-2.field-0.0 = inr (inl (c.in_ok-base.at, c.in_ok-base.base, c.in_ok-base.ensures.found c.args.room, inr (inl (c.in_ok-name.end, c.in_ok-name.name, c.in_ok-name.ensures.found c.args.room, value_fails c.args.room c.args.tokens.now c.args.pos c.in_ok-base.base c.in_ok-name.name c.in_ok-name.end _ none)))) in
    let p = err_from_is_err_and c.from_residual-in_err-name-2.result c.from_residual-in_err-name-2.ensures.1 in rw (p.1, p.2) h

pub returns-clause-found : goal.returns-clause-found
returns-clause-found c = let value : Spells (inner c.args.room) value_form c.args.tokens.now c.in_ok-name.end c.in_ok-name-2.to c.in_ok-name-2.value = search rules in
    let same : c.in_ok-name-2.name ≡ c.in_ok-name.name = search rules in
    rw same (record { middle = c.in_ok-base.at; left = c.in_ok-base.base; first = c.in_ok-base.ensures.found c.args.room; second = record { middle = c.in_ok-name.end; left = c.in_ok-name.name; first = c.in_ok-name.ensures.found c.args.room; second = (value.0, record { inside = c.in_ok-name-2.value; spelled = value.1; value = refl }) } })

pub returns-in_err-base-clause-fails : goal.returns-in_err-base-clause-fails
returns-in_err-base-clause-fails c = let h : Fails (inner c.args.room) (faults c.args.room) (constant_rest c.args.pos) c.args.tokens.now c.args.from c.in_err-base.field-0.0 = inl (c.in_err-base.ensures.fails c.args.room) in
    let p = err_from_is_err_and c.from_residual.result c.from_residual.ensures.1 in rw (p.1, p.2) h

pub returns-in_err-name-clause-fails : goal.returns-in_err-name-clause-fails
returns-in_err-name-clause-fails c = let h : Fails (inner c.args.room) (faults c.args.room) (constant_rest c.args.pos) c.args.tokens.now c.args.from c.in_err-name.field-0.0 = inr (inl (c.in_ok-base.at, c.in_ok-base.base, c.in_ok-base.ensures.found c.args.room, inl (c.in_err-name.ensures.fails c.args.room))) in
    let p = err_from_is_err_and c.from_residual-in_err-name.result c.from_residual-in_err-name.ensures.1 in rw (p.1, p.2) h
