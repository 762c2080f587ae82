use Rattle.std.proofs.Common.{rules, Some, inl}
use Rattle.std.proofs.lemmas.Result.{err_from_is_err_and}
use Rattle.uc_grammar.specs.Spell.{kind_at}
use Rattle.uc_grammar.specs.Form.{Fails}
use Rattle.uc_grammar.specs.Tables.{base_of, word_of}
use Rattle.uc_grammar.specs.Grammar.{based_or_expr, inner, faults}
use Rattle.uc_parse_expr.proofs.Steps.{by_fails}
use Rattle.uc_parse_simple.proofs.declare.read_based.Goals as goal

pub returns-in_err-declarators-in-Some-clause-fails : goal.returns-in_err-declarators-in-Some-clause-fails
returns-in_err-declarators-in-Some-clause-fails c = let h : Fails (inner c.args.room) (faults c.args.room) (based_or_expr c.args.pos (base_of (word_of (kind_at c.args.tokens.now c.args.from)))) c.args.tokens.now c.args.from c.in_err-declarators-in-Some.field-0.0 = by_fails c.args.room c.args.tokens.now c.args.from (based_or_expr c.args.pos) (Some c.in-Some.base) (base_of (word_of (kind_at c.args.tokens.now c.args.from))) _ (search rules) (inl c.in_err-declarators-in-Some.ensures.fails) in
    let p = err_from_is_err_and c.from_residual.result c.from_residual.ensures.1 in rw (p.1, p.2) h
