use Rattle.uc_tree.specs.declared.token.TokenKind.TheVariants as token
use Rattle.uc_tree.specs.declared.token.Sign.TheVariants as sign
use Rattle.uc_grammar.specs.Spell.{kind_at}
use Rattle.uc_grammar.specs.Grammar.{item_end, inner, faults}
use Rattle.std.proofs.lemmas.Result.{err_from_is_err_and}
use Rattle.uc_grammar.specs.Form.{Fails}
use Rattle.std.proofs.Common.{inl, inr, rules, ◌≡◌, Some}
use Rattle.uc_parse_class.proofs.item.read_item_end.Goals as goal

pub returns-in_err-routine-clause-fails : goal.returns-in_err-routine-clause-fails
returns-in_err-routine-clause-fails c = let other : kind_at c.args.tokens.now c.args.from ≡ Some (token.Sign sign.Semicolon) → ⊥ = search rules in
    let h : Fails (inner c.args.room) (faults c.args.room) (item_end c.args.sig) c.args.tokens.now c.args.from c.in_err-routine.field-0.0 = inr (other, inl c.in_err-routine.ensures.fails) in
    let p = err_from_is_err_and c.from_residual.result c.from_residual.ensures.1 in rw (p.1, p.2) h
