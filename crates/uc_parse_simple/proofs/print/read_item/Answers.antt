use Rattle.std.proofs.Common.{rules, ◌≡◌, ℕ, List, Some, inl}
use Rattle.std.proofs.lemmas.Result.{err_from_is_err_and}
use Rattle.uc_tree.specs.declared.token.TokenKind.TheVariants as token
use Rattle.uc_tree.specs.declared.token.Word.TheVariants as word
use Rattle.uc_grammar.specs.Spell.{kind_at}
use Rattle.uc_grammar.specs.Form.{Fails}
use Rattle.uc_grammar.specs.Grammar.{inner, faults}
use Rattle.uc_parse_simple.proofs.Other.{other_item}
use Rattle.uc_parse_simple.proofs.print.read_item.Goals as goal

pub returns-in_err-value-in-None-clause-fails : goal.returns-in_err-value-in-None-clause-fails
returns-in_err-value-in-None-clause-fails c = let no_end : kind_at c.args.tokens.now c.args.from ≡ Some (token.Word word.Endl) → ⊥ = search rules in
    let no_text : (t : List ℕ) → kind_at c.args.tokens.now c.args.from ≡ Some (token.Text t) → ⊥ = search rules in
    let h = other_item (λ g. Fails (inner c.args.room) (faults c.args.room) g c.args.tokens.now c.args.from c.in_err-value-in-None.field-0.0) c.args.sign (kind_at c.args.tokens.now c.args.from) no_end no_text (inl c.in_err-value-in-None.ensures.fails) in
    let p = err_from_is_err_and c.from_residual-in_err-value-in-None.result c.from_residual-in_err-value-in-None.ensures.1 in rw (p.1, p.2) h
