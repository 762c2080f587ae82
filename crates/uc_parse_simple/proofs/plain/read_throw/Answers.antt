use Rattle.std.proofs.Common.{rules, ◌≡◌, Some, inl, inr}
use Rattle.std.proofs.lemmas.Result.{err_from_is_err_and}
use Rattle.uc_tree.specs.declared.token.TokenKind.TheVariants as token
use Rattle.uc_tree.specs.declared.token.Sign.TheVariants as sign
use Rattle.uc_grammar.specs.Spell.{kind_at}
use Rattle.uc_grammar.specs.Form.{Fails}
use Rattle.uc_grammar.specs.Grammar.{throw_rest, inner, faults}
use Rattle.uc_parse_simple.proofs.plain.read_throw.Goals as goal

pub returns-in_err-raised-clause-fails : goal.returns-in_err-raised-clause-fails
returns-in_err-raised-clause-fails c = let other : kind_at c.args.tokens.now c.args.from ≡ Some (token.Sign sign.Semicolon) → ⊥ = search rules in let h : Fails (inner c.args.room) (faults c.args.room) (throw_rest c.args.pos) c.args.tokens.now c.args.from c.in_err-raised.field-0.0 = inl (inr (other, inl (inl c.in_err-raised.ensures.fails))) in let p = err_from_is_err_and c.from_residual.result c.from_residual.ensures.1 in rw (p.1, p.2) h

pub returns-in_err-raised-2-clause-fails : goal.returns-in_err-raised-2-clause-fails
returns-in_err-raised-2-clause-fails c = let other : kind_at c.args.tokens.now c.args.from ≡ Some (token.Sign sign.Semicolon) → ⊥ = search rules in
    let h : Fails (inner c.args.room) (faults c.args.room) (throw_rest c.args.pos) c.args.tokens.now c.args.from c.in_err-raised-2.field-0.0 = inl (inr (other, inl (inr (inl (c.in_ok-raised.at, c.in_ok-raised.raised, c.in_ok-raised.ensures.found, inl c.in_err-raised-2.ensures.fails))))) in
    let p = err_from_is_err_and c.from_residual-in_err-raised-2.result c.from_residual-in_err-raised-2.ensures.1 in rw (p.1, p.2) h
