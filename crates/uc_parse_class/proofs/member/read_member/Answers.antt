use Rattle.std.proofs.Common.{rules, ◌≡◌, ◌+◌, Some, subst}
use Rattle.std.proofs.lemmas.Result.{IfErr-weaker, IfOk-weaker}
use Rattle.uc_grammar.specs.Spell.{kind_at, pos_at}
use Rattle.uc_grammar.specs.Form.{Spells, Fails}
use Rattle.uc_grammar.specs.Grammar.{member_at, inner, faults}
use Rattle.uc_parse_expr.proofs.Steps.{by_found, by_fails}
use Rattle.uc_parse_class.specs.Forms.{destructor_form, named_member}
use Rattle.uc_tree.specs.ProgramViews.{member_form_at}
use Rattle.uc_tree.specs.declared.token.TokenKind.TheVariants as token
use Rattle.uc_tree.specs.declared.token.Sign.TheVariants as sign
use Rattle.uc_parse_class.proofs.member.read_member.Goals as goal

pub returns-in-Some-Sign-Tilde-clause-found : goal.returns-in-Some-Sign-Tilde-clause-found
returns-in-Some-Sign-Tilde-clause-found c = let e : Some (token.Sign sign.Tilde) ≡ kind_at c.args.tokens.now c.args.from = search rules in
    IfOk-weaker c.read_destructor.result _ _ (λ r h. by_found c.args.room c.args.tokens.now c.args.from (member_at (pos_at c.args.tokens.now c.args.from)) (Some (token.Sign sign.Tilde)) (kind_at c.args.tokens.now c.args.from) r.1 (member_form_at r.0) e (subst (λ p. Spells (inner c.args.room) (destructor_form p) c.args.tokens.now (c.args.from + 1) r.1 (member_form_at r.0)) c.pos_at-pos.ensures h)) c.read_destructor.ensures.found

pub returns-in-Some-Sign-Tilde-clause-fails : goal.returns-in-Some-Sign-Tilde-clause-fails
returns-in-Some-Sign-Tilde-clause-fails c = let e : Some (token.Sign sign.Tilde) ≡ kind_at c.args.tokens.now c.args.from = search rules in
    IfErr-weaker c.read_destructor.result _ _ (λ f h. by_fails c.args.room c.args.tokens.now c.args.from (member_at (pos_at c.args.tokens.now c.args.from)) (Some (token.Sign sign.Tilde)) (kind_at c.args.tokens.now c.args.from) f e (subst (λ p. Fails (inner c.args.room) (faults c.args.room) (destructor_form p) c.args.tokens.now (c.args.from + 1) f) c.pos_at-pos.ensures h)) c.read_destructor.ensures.fails

pub returns-in-Some-Name-clause-found : goal.returns-in-Some-Name-clause-found
returns-in-Some-Name-clause-found c = let e : Some (token.Name c.in-Some-Name.name) ≡ kind_at c.args.tokens.now c.args.from = search rules in
    IfOk-weaker c.read_named_member.result _ _ (λ r h. by_found c.args.room c.args.tokens.now c.args.from (member_at (pos_at c.args.tokens.now c.args.from)) (Some (token.Name c.in-Some-Name.name)) (kind_at c.args.tokens.now c.args.from) r.1 (member_form_at r.0) e (subst (λ p. Spells (inner c.args.room) (named_member p c.in-Some-Name.name) c.args.tokens.now (c.args.from + 1) r.1 (member_form_at r.0)) c.pos_at-pos.ensures h)) c.read_named_member.ensures.found

pub returns-in-Some-Name-clause-fails : goal.returns-in-Some-Name-clause-fails
returns-in-Some-Name-clause-fails c = let e : Some (token.Name c.in-Some-Name.name) ≡ kind_at c.args.tokens.now c.args.from = search rules in
    IfErr-weaker c.read_named_member.result _ _ (λ f h. by_fails c.args.room c.args.tokens.now c.args.from (member_at (pos_at c.args.tokens.now c.args.from)) (Some (token.Name c.in-Some-Name.name)) (kind_at c.args.tokens.now c.args.from) f e (subst (λ p. Fails (inner c.args.room) (faults c.args.room) (named_member p c.in-Some-Name.name) c.args.tokens.now (c.args.from + 1) f) c.pos_at-pos.ensures h)) c.read_named_member.ensures.fails
