use Rattle.uc_tree.specs.declared.token.TokenKind.TheVariants as token
use Rattle.uc_tree.specs.declared.token.Sign.TheVariants as sign
use Rattle.uc_grammar.specs.Grammar.{length_form, inner, faults}
use Rattle.uc_grammar.specs.Spell.{kind_at}
use Rattle.std.proofs.lemmas.Result.{err_from_is_err_and}
use Rattle.uc_grammar.specs.Form.{Fails}
use Rattle.std.proofs.Common.{inl, rules, ◌≡◌, Some, inr}
use Rattle.uc_parse_simple.proofs.declare.read_length.Goals as goal

pub returns-in_err-length-clause-fails : goal.returns-in_err-length-clause-fails
returns-in_err-length-clause-fails c = let there : kind_at c.args.tokens.now c.args.from ≡ Some (token.Sign sign.OpenBracket) = search rules in
    let h : Fails (inner c.args.room) (faults c.args.room) length_form c.args.tokens.now c.args.from c.in_err-length.field-0.0 = inl (there, inl (inl c.in_err-length.ensures.fails)) in
    let p = err_from_is_err_and c.from_residual.result c.from_residual.ensures.1 in rw (p.1, p.2) h

pub returns-in_err-length-2-clause-fails : goal.returns-in_err-length-2-clause-fails
returns-in_err-length-2-clause-fails c = let there : kind_at c.args.tokens.now c.args.from ≡ Some (token.Sign sign.OpenBracket) = search rules in
    let h : Fails (inner c.args.room) (faults c.args.room) length_form c.args.tokens.now c.args.from c.in_err-length-2.field-0.0 = inl (there, inl (inr (inl (c.in_ok-length.at, c.in_ok-length.length, c.in_ok-length.ensures.found, inl c.in_err-length-2.ensures.fails)))) in
    let p = err_from_is_err_and c.from_residual-in_err-length-2.result c.from_residual-in_err-length-2.ensures.1 in rw (p.1, p.2) h
