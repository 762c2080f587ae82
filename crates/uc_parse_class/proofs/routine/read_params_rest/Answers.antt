use Rattle.std.proofs.Common.{rules, ◌≡◌, Some, inl, inr}
use Rattle.std.proofs.lemmas.Result.{err_from_is_err_and}
use Rattle.uc_grammar.specs.Spell.{kind_at}
use Rattle.uc_grammar.specs.Form.{Fails}
use Rattle.uc_grammar.specs.Grammar.{params_rest, inner, faults}
use Rattle.uc_tree.specs.declared.token.TokenKind.TheVariants as token
use Rattle.uc_tree.specs.declared.token.Sign.TheVariants as sign
use Rattle.uc_parse_class.proofs.routine.read_params_rest.Goals as goal

pub returns-in_err-all-clause-fails : goal.returns-in_err-all-clause-fails
returns-in_err-all-clause-fails c = let other : kind_at c.args.tokens.now c.args.from ≡ Some (token.Sign sign.CloseParen) → ⊥ = search rules in
    let h : Fails (inner c.args.room) (faults c.args.room) params_rest c.args.tokens.now c.args.from c.in_err-all.field-0.0 = inr (other, inl c.in_err-all.ensures.fails) in
    let p = err_from_is_err_and c.from_residual.result c.from_residual.ensures.1 in rw (p.1, p.2) h

pub returns-in_err-to-clause-fails : goal.returns-in_err-to-clause-fails
returns-in_err-to-clause-fails c = let other : kind_at c.args.tokens.now c.args.from ≡ Some (token.Sign sign.CloseParen) → ⊥ = search rules in
    let h : Fails (inner c.args.room) (faults c.args.room) params_rest c.args.tokens.now c.args.from c.in_err-to.field-0.0 = inr (other, inr (inl (c.in_ok-all.at, c.in_ok-all.all.items, c.in_ok-all.ensures.found, inl c.in_err-to.ensures.fails))) in
    let p = err_from_is_err_and c.from_residual-in_err-to.result c.from_residual-in_err-to.ensures.1 in rw (p.1, p.2) h
