use Rattle.std.proofs.Common.{rules, ◌≡◌, ◌+◌, Some, inl, inr, subst}
use Rattle.std.proofs.lemmas.Result.{IfErr-weaker, IfOk-weaker}
use Rattle.uc_grammar.specs.Spell.{kind_at}
use Rattle.uc_grammar.specs.Form.{Spells, Fails}
use Rattle.uc_grammar.specs.Grammar.{outer_routine, free_routine, inner, faults}
use Rattle.uc_tree.specs.declared.kinds.Owner.TheVariants as owner
use Rattle.uc_tree.specs.declared.token.TokenKind.TheVariants as token
use Rattle.uc_tree.specs.declared.token.Sign.TheVariants as sign
use Rattle.uc_parse_class.proofs.item.read_based_after.Goals as goal

pub returns-then-is_sign-clause-found : goal.returns-then-is_sign-clause-found
returns-then-is_sign-clause-found c = let there : kind_at c.args.tokens.now c.args.from ≡ Some (token.Sign sign.Scope) = search rules in
    IfOk-weaker c.read_outer_routine.result _ _ (λ r h. inl (there, subst (λ n. Spells (inner c.args.room) (outer_routine c.args.pos c.args.base (owner.Class n)) c.args.tokens.now (c.args.from + 1) r.1 r.0) c.in_ok-name.ensures h)) c.read_outer_routine.ensures.found

pub returns-then-is_sign-clause-fails : goal.returns-then-is_sign-clause-fails
returns-then-is_sign-clause-fails c = let there : kind_at c.args.tokens.now c.args.from ≡ Some (token.Sign sign.Scope) = search rules in
    IfErr-weaker c.read_outer_routine.result _ _ (λ f h. inl (there, subst (λ n. Fails (inner c.args.room) (faults c.args.room) (outer_routine c.args.pos c.args.base (owner.Class n)) c.args.tokens.now (c.args.from + 1) f) c.in_ok-name.ensures h)) c.read_outer_routine.ensures.fails

pub returns-clause-found : goal.returns-clause-found
returns-clause-found c = let other : kind_at c.args.tokens.now c.args.from ≡ Some (token.Sign sign.Scope) → ⊥ = search rules in
    IfOk-weaker c.read_free_routine.result _ _ (λ r h. inr (other, subst (λ n. Spells (inner c.args.room) (free_routine c.args.pos c.args.base n) c.args.tokens.now c.args.from r.1 r.0) c.in_ok-name.ensures h)) c.read_free_routine.ensures.found

pub returns-clause-fails : goal.returns-clause-fails
returns-clause-fails c = let other : kind_at c.args.tokens.now c.args.from ≡ Some (token.Sign sign.Scope) → ⊥ = search rules in
    IfErr-weaker c.read_free_routine.result _ _ (λ f h. inr (other, subst (λ n. Fails (inner c.args.room) (faults c.args.room) (free_routine c.args.pos c.args.base n) c.args.tokens.now c.args.from f) c.in_ok-name.ensures h)) c.read_free_routine.ensures.fails
