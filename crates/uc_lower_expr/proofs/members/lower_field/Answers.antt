use Rattle.std.proofs.Common.{Some, None, ap, sym, ◌∙◌}
use Rattle.uc_resolve.specs.Resolve.{Standing, call_of_condition, part_by}
use Rattle.uc_lower_expr.specs.declared.meaning.ExprMeaning.{ExprMeaning}
use Rattle.uc_lower_expr.specs.declared.meaning.Standing.TheVariants as standing
use Rattle.uc_lower_expr.proofs.MembersLemmas.{arm_named_call, called_by, no_part, input_member, variable_member, field_member, at_place_member, number_member}
use Rattle.uc_lower_expr.proofs.members.lower_field.Goals as goal

pub returns-in-Input : goal.returns-in-Input
returns-in-Input c = input_member c.lower_input_member.result c.args.names.now c.args.out.now.marks c.args.line c.args.start c.args.name.now c.args.told _ _ c.requires.inside c.in-Input.is c.lower_input_member.ensures.code c.lower_input_member.ensures.tells

pub returns-in-Variable : goal.returns-in-Variable
returns-in-Variable c = variable_member c.lower_member.result c.args.names.now _ c.args.line c.args.out.now.marks c.args.start c.in-Variable.field-0 c.args.name.now c.args.told _ _ c.in-Variable.is c.lower_member.ensures

pub returns-in-Field : goal.returns-in-Field
returns-in-Field c = field_member c.lower_member-in-Field.result c.args.names.now _ c.args.line c.args.out.now.marks c.args.start c.in-Field.field-0 c.args.name.now c.args.told _ _ c.in-Field.is c.lower_member-in-Field.ensures

pub returns-in-Place : goal.returns-in-Place
returns-in-Place c = at_place_member c.lower_member-in-Place.result c.args.names.now _ c.args.line c.args.out.now.marks c.args.start c.args.name.now c.args.told _ _ c.in-Place.is c.lower_member-in-Place.ensures

pub returns-in-Number : goal.returns-in-Number
returns-in-Number c = number_member c.lower_member-in-Number.result c.args.names.now _ c.args.line c.args.out.now.marks c.args.start c.args.name.now c.args.told _ _ c.in-Number.is c.lower_member-in-Number.ensures

pub returns-in-Value : goal.returns-in-Value
returns-in-Value c = no_part c.put_nothing.result c.args.names.now c.args.out.now.marks c.args.line c.args.start c.args.name.now standing.Value c.args.told _ _ c.requires.inside c.in-Value.is (λ o m h. ap (λ (s : Standing). part_by c.args.names.now s m c.args.name.now) h) c.put_nothing.ensures.code c.put_nothing.ensures.tells

pub returns-in-Fail : goal.returns-in-Fail
returns-in-Fail c = no_part c.put_nothing-in-Fail.result c.args.names.now c.args.out.now.marks c.args.line c.args.start c.args.name.now standing.Fail c.args.told _ _ c.requires.inside c.in-Fail.is (λ o m h. ap (λ (s : Standing). part_by c.args.names.now s m c.args.name.now) h) c.put_nothing-in-Fail.ensures.code c.put_nothing-in-Fail.ensures.tells

pub returns-in-Routine : goal.returns-in-Routine
returns-in-Routine c = no_part c.put_nothing-in-Routine.result c.args.names.now c.args.out.now.marks c.args.line c.args.start c.args.name.now (standing.Routine c.in-Routine.field-0) c.args.told _ _ c.requires.inside c.in-Routine.is (λ o m h. ap (λ (s : Standing). part_by c.args.names.now s m c.args.name.now) h) c.put_nothing-in-Routine.ensures.code c.put_nothing-in-Routine.ensures.tells

pub returns-in-Member : goal.returns-in-Member
returns-in-Member c = no_part c.put_nothing-in-Member.result c.args.names.now c.args.out.now.marks c.args.line c.args.start c.args.name.now (standing.Member c.in-Member.field-0) c.args.told _ _ c.requires.inside c.in-Member.is (λ o m h. ap (λ (s : Standing). part_by c.args.names.now s m c.args.name.now) h) c.put_nothing-in-Member.ensures.code c.put_nothing-in-Member.ensures.tells

pub returns-in-LiveMember : goal.returns-in-LiveMember
returns-in-LiveMember c = no_part c.put_nothing-in-LiveMember.result c.args.names.now c.args.out.now.marks c.args.line c.args.start c.args.name.now (standing.LiveMember c.in-LiveMember.field-0) c.args.told _ _ c.requires.inside c.in-LiveMember.is (λ o m h. ap (λ (s : Standing). part_by c.args.names.now s m c.args.name.now) h) c.put_nothing-in-LiveMember.ensures.code c.put_nothing-in-LiveMember.ensures.tells

pub returns-in-MutexMember : goal.returns-in-MutexMember
returns-in-MutexMember c = no_part c.put_nothing-in-MutexMember.result c.args.names.now c.args.out.now.marks c.args.line c.args.start c.args.name.now (standing.MutexMember c.in-MutexMember.member c.in-MutexMember.routine) c.args.told _ _ c.requires.inside c.in-MutexMember.is (λ o m h. ap (λ (s : Standing). part_by c.args.names.now s m c.args.name.now) h) c.put_nothing-in-MutexMember.ensures.code c.put_nothing-in-MutexMember.ensures.tells

pub returns-in-Nothing : goal.returns-in-Nothing
returns-in-Nothing c = no_part c.put_nothing-in-Nothing.result c.args.names.now c.args.out.now.marks c.args.line c.args.start c.args.name.now standing.Nothing c.args.told _ _ c.requires.inside c.in-Nothing.is (λ o m h. ap (λ (s : Standing). part_by c.args.names.now s m c.args.name.now) h) c.put_nothing-in-Nothing.ensures.code c.put_nothing-in-Nothing.ensures.tells

pub returns-in-Some : goal.returns-in-Some
returns-in-Some c = arm_named_call c.args.names.now c.args.out.now.marks c.args.line c.args.start c.in-Condition.field-0 c.in-Some.call c.args.name.now c.args.told _ _ c.requires.inside c.in-Condition.is (called_by c.args.name.now c.named.result (Some c.in-Some.call) c.named.ensures c.in-Some.is) (c.standing_as.ensures ∙ ap (λ (x : ExprMeaning). let w : ExprMeaning = record x { standing = standing.CallOf c.in-Some.call } in w) c.value-value.ensures)

pub returns-in-None : goal.returns-in-None
returns-in-None c = no_part c.put_nothing-in-None.result c.args.names.now c.args.out.now.marks c.args.line c.args.start c.args.name.now (standing.Condition c.in-Condition.field-0) c.args.told _ _ c.requires.inside c.in-Condition.is (λ o m h. ap (λ (s : Standing). part_by c.args.names.now s m c.args.name.now) h ∙ ap (call_of_condition m) (sym (called_by c.args.name.now c.named.result None c.named.ensures c.in-None.is))) c.put_nothing-in-None.ensures.code c.put_nothing-in-None.ensures.tells

pub returns-in-CallOf : goal.returns-in-CallOf
returns-in-CallOf c = no_part c.put_nothing-in-CallOf.result c.args.names.now c.args.out.now.marks c.args.line c.args.start c.args.name.now (standing.CallOf c.in-CallOf.field-0) c.args.told _ _ c.requires.inside c.in-CallOf.is (λ o m h. ap (λ (s : Standing). part_by c.args.names.now s m c.args.name.now) h) c.put_nothing-in-CallOf.ensures.code c.put_nothing-in-CallOf.ensures.tells
