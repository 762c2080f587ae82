use Rattle.std.proofs.Common.{◌≡◌, ℕ, false, Option, ap, subst, sym, ◌∙◌}
use Rattle.std.specs.Prelude.{OnOk, IfOk}
use Rattle.uc_tree.specs.Objects.{class_at}
use Rattle.uc_resolve.specs.Resolve.{Meant}
use Rattle.uc_lower_expr.specs.DraftGrowth.{Adds, ExprCode}
use Rattle.uc_lower_expr.specs.Meanings.{Tells, is_coroutine_in, member_standing, mutex_number_in}
use Rattle.uc_lower_expr.specs.declared.meaning.Standing.{Standing as Told}
use Rattle.uc_lower_expr.specs.declared.meaning.ExprMeaning.{ExprMeaning}
use Rattle.uc_lower_expr.proofs.MembersLemmas.{own_method, own_item, own_method_code, own_method_told}
use Rattle.uc_lower_expr.proofs.members.lower_own_member.Goals as goal

pub returns-in_ok-put-in-Some-clause-code : goal.returns-in_ok-put-in-Some-clause-code
returns-in_ok-put-in-Some-clause-code c = own_method_code c.args.out.now.marks c.args.line c.args.names.now c.args.class c.in-Some.routine c.args.name.now _ _ c.requires.no_field (sym c.member.ensures ∙ c.in-Some.is) c.in_ok-put-in-Some.ensures

pub returns-in_ok-put-in-Some-clause-tells : goal.returns-in_ok-put-in-Some-clause-tells
returns-in_ok-put-in-Some-clause-tells c =
    let p = c.args.names.now in
    let m = mutex_number_in (class_at p c.args.class) c.args.name.now in
    let told : c.standing_as.result ≡ record c.result.result { standing = member_standing m false c.in-Some.routine } =
    c.standing_as.ensures ∙ ap (λ (x : Told). let w : ExprMeaning = record c.result.result { standing = x } in w) (c.member_of-standing.ensures ∙ ap (λ (o : Option ℕ). member_standing o false c.in-Some.routine) c.mutex_number.ensures) in
    subst (λ (x : Meant). Tells p c.standing_as.result x) (sym (own_method p c.args.class c.args.name.now c.in-Some.routine c.requires.no_field (sym c.member.ensures ∙ c.in-Some.is))) (own_method_told p m (is_coroutine_in (class_at p c.args.class)) c.in-Some.routine c.result.result c.standing_as.result c.result.ensures told)

pub returns-in-None-clause-code : goal.returns-in-None-clause-code
returns-in-None-clause-code c =
    subst (λ (m : Meant). OnOk c.lower_item_name.result (Adds 1 (ExprCode c.args.line c.args.out.now.marks m.expr) c.args.out.now c.lower_item_name.new.out)) (sym (own_item c.args.names.now c.args.class c.args.name.now c.requires.no_field (sym c.member.ensures ∙ c.in-None.is))) c.lower_item_name.ensures.code

pub returns-in-None-clause-tells : goal.returns-in-None-clause-tells
returns-in-None-clause-tells c =
    subst (λ (m : Meant). IfOk c.lower_item_name.result (λ (t : ExprMeaning). Tells c.args.names.now t m)) (sym (own_item c.args.names.now c.args.class c.args.name.now c.requires.no_field (sym c.member.ensures ∙ c.in-None.is))) c.lower_item_name.ensures.tells
