use Rattle.std.proofs.Common.{rules, ℕ, Bool, Option, ap, sym, arith, ◌∙◌}
use Rattle.uc_tree.specs.Objects.{class_at}
use Rattle.uc_resolve.specs.Resolve.{Of, member_meant}
use Rattle.uc_lower_expr.specs.declared.meaning.ExprMeaning.{ExprMeaning}
use Rattle.uc_lower_expr.specs.declared.meaning.Standing.{Standing as Told}
use Rattle.uc_lower_expr.specs.Meanings.{member_standing, mutex_number_in}
use Rattle.uc_lower_expr.proofs.MembersLemmas.{none_is, arm_condition, arm_field, arm_method}
use Rattle.uc_lower_expr.proofs.Walks.{put_for_nothing}
use Rattle.uc_lower_expr.proofs.members.lower_member_of.Goals as goal

pub returns-in_ok-restart-in-Some-condition : goal.returns-in_ok-restart-in-Some-condition
returns-in_ok-restart-in-Some-condition c = arm_condition c.args.out.now.marks c.args.line c.args.names.now c.args.class c.args.start c.in-Some-condition.number _ c.args.name.now c.in-Some.field c.args.told _ _ _ c.requires.inside c.in-Some.ensures c.in-Some-condition.is (search rules) c.standing_as.ensures c.in_ok-restart-in-Some-condition.ensures

pub returns-in_ok-put_field-in-None-condition : goal.returns-in_ok-put_field-in-None-condition
returns-in_ok-put_field-in-None-condition c = arm_field c.args.out.now.marks c.args.line c.args.names.now c.args.class c.args.start c.args.name.now c.in-Some.field c.args.told _ _ c.requires.inside c.in-Some.ensures c.in-None-condition.is c.in_ok-put_field-in-None-condition.ensures

pub returns-in-Some-member : goal.returns-in-Some-member
returns-in-Some-member c =
    let p = c.args.names.now in
    arm_method c.args.out.now.marks c.args.line p c.args.class c.args.start c.in-Some-member.routine c.args.name.now c.args.told _ _ _ c.requires.inside c.in-None.ensures (sym c.member.ensures ∙ c.in-Some-member.is) c.result.ensures (
    c.standing_as-in-Some-member.ensures
    ∙ ap (λ (x : Told). let w : ExprMeaning = record c.result.result { standing = x } in w) (
    c.member_of-standing.ensures
    ∙ ap (λ (m : Option ℕ). member_standing m c.is_coroutine.result c.in-Some-member.routine) c.mutex_number-mutex.ensures
    ∙ ap (λ (b : Bool). member_standing (mutex_number_in (class_at p c.args.class) c.args.name.now) b c.in-Some-member.routine) c.is_coroutine.ensures))

pub returns-in-None-member : goal.returns-in-None-member
returns-in-None-member c =
    put_for_nothing c.args.out.now.marks c.put_nothing.result c.args.names.now _ c.args.line c.args.start (λ m. member_meant c.args.names.now c.args.class (Of m.expr) c.args.name.now) c.args.told _ _ (omega arith) c.requires.inside (λ m u. none_is c.args.names.now c.args.class c.args.name.now (Of m.expr) c.in-None.ensures (sym c.member.ensures ∙ c.in-None-member.is)) c.put_nothing.ensures.code c.put_nothing.ensures.tells
