use Rattle.uc_parse_simple.proofs.Steps.{behind_fails}
use Rattle.uc_tree.specs.declared.token.TokenKind.TheVariants as token
use Rattle.uc_tree.specs.declared.token.Sign.TheVariants as sign
use Rattle.uc_grammar.specs.Grammar.{class_rest, inner, faults}
use Rattle.uc_parse_class.specs.Forms.{class_after}
use Rattle.uc_grammar.specs.Spell.{kind_at}
use Rattle.std.proofs.lemmas.Result.{err_from_is_err_and}
use Rattle.uc_grammar.specs.Form.{Fails}
use Rattle.std.proofs.Common.{inl, inr, rules, ◌≡◌, Some}
use Rattle.uc_parse_class.proofs.class.read_class_after.Goals as goal

pub returns-in_err-at-clause-fails : goal.returns-in_err-at-clause-fails
returns-in_err-at-clause-fails c = let other : kind_at c.args.tokens.now c.args.from ≡ Some (token.Sign sign.Semicolon) → ⊥ = search rules in
    let h : Fails (inner c.args.room) (faults c.args.room) (class_after c.args.pos c.args.kind c.args.name) c.args.tokens.now c.args.from c.in_err-at.field-0.0 = inr (other, inl c.in_err-at.ensures.fails) in
    let p = err_from_is_err_and c.from_residual.result c.from_residual.ensures.1 in rw (p.1, p.2) h

pub returns-in_err-item-clause-fails : goal.returns-in_err-item-clause-fails
returns-in_err-item-clause-fails c = let other : kind_at c.args.tokens.now c.args.from ≡ Some (token.Sign sign.Semicolon) → ⊥ = search rules in
    let h : Fails (inner c.args.room) (faults c.args.room) (class_after c.args.pos c.args.kind c.args.name) c.args.tokens.now c.args.from c.in_err-item.field-0.0 = inr (other, behind_fails c.args.room c.args.tokens.now (token.Sign sign.OpenBrace) (class_rest c.args.pos c.args.kind c.args.name) c.args.from c.in_ok-at.at _ c.in_ok-at.ensures.found (c.in_err-item.ensures.fails)) in
    let p = err_from_is_err_and c.from_residual-in_err-item.result c.from_residual-in_err-item.ensures.1 in rw (p.1, p.2) h
