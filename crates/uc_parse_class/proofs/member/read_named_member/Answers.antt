use Rattle.std.proofs.Common.{rules, ◌≡◌, ◌+◌, Some, inl, inr, subst}
use Rattle.std.proofs.lemmas.Result.{IfErr-weaker, IfOk-weaker}
use Rattle.uc_grammar.specs.Spell.{kind_at}
use Rattle.uc_grammar.specs.Form.{Spells, Fails}
use Rattle.uc_grammar.specs.Grammar.{member_maker, based_member, inner, faults}
use Rattle.uc_tree.specs.declared.kinds.Base.TheVariants as base
use Rattle.uc_tree.specs.ProgramViews.{member_form_at}
use Rattle.uc_tree.specs.declared.kinds.Role.TheVariants as role
use Rattle.uc_tree.specs.declared.token.TokenKind.TheVariants as token
use Rattle.uc_tree.specs.declared.token.Sign.TheVariants as sign
use Rattle.uc_parse_class.proofs.member.read_named_member.Goals as goal

pub returns-then-is_sign-clause-found : goal.returns-then-is_sign-clause-found
returns-then-is_sign-clause-found c = let there : kind_at c.args.tokens.now c.args.from ≡ Some (token.Sign sign.OpenParen) = search rules in
    IfOk-weaker c.read_member_maker.result _ _ (λ r h. inl (there, subst (λ n. Spells (inner c.args.room) (member_maker c.args.pos role.Constructor n) c.args.tokens.now (c.args.from + 1) r.1 (member_form_at r.0)) c.in_ok-name.ensures h)) c.read_member_maker.ensures.found

pub returns-then-is_sign-clause-fails : goal.returns-then-is_sign-clause-fails
returns-then-is_sign-clause-fails c = let there : kind_at c.args.tokens.now c.args.from ≡ Some (token.Sign sign.OpenParen) = search rules in
    IfErr-weaker c.read_member_maker.result _ _ (λ f h. inl (there, subst (λ n. Fails (inner c.args.room) (faults c.args.room) (member_maker c.args.pos role.Constructor n) c.args.tokens.now (c.args.from + 1) f) c.in_ok-name.ensures h)) c.read_member_maker.ensures.fails

pub returns-clause-found : goal.returns-clause-found
returns-clause-found c = let other : kind_at c.args.tokens.now c.args.from ≡ Some (token.Sign sign.OpenParen) → ⊥ = search rules in
    IfOk-weaker c.read_based_member.result _ _ (λ r h. inr (other, subst (λ n. Spells (inner c.args.room) (based_member c.args.pos (base.Named n)) c.args.tokens.now c.args.from r.1 (member_form_at r.0)) c.in_ok-name.ensures h)) c.read_based_member.ensures.found

pub returns-clause-fails : goal.returns-clause-fails
returns-clause-fails c = let other : kind_at c.args.tokens.now c.args.from ≡ Some (token.Sign sign.OpenParen) → ⊥ = search rules in
    IfErr-weaker c.read_based_member.result _ _ (λ f h. inr (other, subst (λ n. Fails (inner c.args.room) (faults c.args.room) (based_member c.args.pos (base.Named n)) c.args.tokens.now c.args.from f) c.in_ok-name.ensures h)) c.read_based_member.ensures.fails
