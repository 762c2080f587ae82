use Rattle.std.proofs.Common.{rules, ◌≡◌, Some, inr}
use Rattle.std.proofs.lemmas.Result.{err_from_is_err_and}
use Rattle.uc_tree.specs.declared.token.TokenKind.TheVariants as token
use Rattle.uc_tree.specs.declared.token.Sign.TheVariants as sign
use Rattle.uc_grammar.specs.Spell.{kind_at}
use Rattle.uc_grammar.specs.Form.{Fails}
use Rattle.uc_grammar.specs.Grammar.{caught_form, inner, faults}
use Rattle.uc_parse_simple.proofs.event.read_caught.Goals as goal

pub returns-in_err-caught-clause-fails : goal.returns-in_err-caught-clause-fails
returns-in_err-caught-clause-fails c = let other : kind_at c.args.tokens.now c.args.from ≡ Some (token.Sign sign.Ellipsis) → ⊥ = search rules in
    let h : Fails (inner c.args.room) (faults c.args.room) (caught_form) c.args.tokens.now c.args.from c.in_err-caught.field-0.0 = inr (other, c.in_err-caught.ensures.fails) in
    let p = err_from_is_err_and c.from_residual-in_err-caught.result c.from_residual-in_err-caught.ensures.1 in rw (p.1, p.2) h
