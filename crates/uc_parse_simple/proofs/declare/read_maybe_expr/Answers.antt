use Rattle.std.proofs.Common.{rules, ◌≡◌, Some, inl, inr, refl}
use Rattle.std.proofs.lemmas.Result.{err_from_is_err_and}
use Rattle.uc_tree.specs.declared.token.TokenKind.TheVariants as token
use Rattle.uc_grammar.specs.Spell.{kind_at}
use Rattle.uc_grammar.specs.Form.{Fails}
use Rattle.uc_grammar.specs.Grammar.{maybe_expr, inner, faults}
use Rattle.uc_parse_simple.proofs.declare.read_maybe_expr.Goals as goal

pub returns-in_err-value-clause-fails : goal.returns-in_err-value-clause-fails
returns-in_err-value-clause-fails c = let other : kind_at c.args.tokens.now c.args.from ≡ Some (token.Sign c.args.close) → ⊥ = search rules in let h : Fails (inner c.args.room) (faults c.args.room) (maybe_expr c.args.close) c.args.tokens.now c.args.from c.in_err-value.field-0.0 = inr (other, inl (inl c.in_err-value.ensures.fails)) in let p = err_from_is_err_and c.from_residual.result c.from_residual.ensures.1 in rw (p.1, p.2) h

pub returns-in_err-value-2-clause-fails : goal.returns-in_err-value-2-clause-fails
returns-in_err-value-2-clause-fails c = let other : kind_at c.args.tokens.now c.args.from ≡ Some (token.Sign c.args.close) → ⊥ = search rules in let h : Fails (inner c.args.room) (faults c.args.room) (maybe_expr c.args.close) c.args.tokens.now c.args.from c.in_err-value-2.field-0.0 = inr (other, inl (inr (inl (c.in_ok-value.at, c.in_ok-value.value, c.in_ok-value.ensures.found, inl c.in_err-value-2.ensures.fails)))) in let p = err_from_is_err_and c.from_residual-in_err-value-2.result c.from_residual-in_err-value-2.ensures.1 in rw (p.1, p.2) h

pub returns-clause-found : goal.returns-clause-found
returns-clause-found c = let other : kind_at c.args.tokens.now c.args.from ≡ Some (token.Sign c.args.close) → ⊥ = search rules in inr (other, record { inside = c.in_ok-value-2.value; spelled = record { middle = c.in_ok-value.at; left = c.in_ok-value.value; first = c.in_ok-value.ensures.found; second = (c.in_ok-value-2.ensures.found.0, (c.in_ok-value-2.ensures.found.1, c.in_ok-value-2.ensures.same)) }; value = refl })
