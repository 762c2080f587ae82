-- The form of a member and of an item as the code holds them.
use Rattle.uc_tree.specs.declared.class.MemberForm.{MemberForm}
use Rattle.uc_tree.specs.declared.class.MemberForm.TheVariants as member
use Rattle.uc_tree.specs.Programs as tree

abbrev pub member_form_at : MemberForm → tree.MemberForm
member_form_at (member.Fields at base ds) = tree.FieldsMember at base ds.items
member_form_at (member.Routine routine) = tree.RoutineMember routine
member_form_at (member.Proto sig) = tree.ProtoMember sig
