-- What is known of the tables of some items, and of those of the members of a class.
use Rattle.std.specs.Prelude.{List}
use Rattle.uc_tree.specs.Programs.{Item, Member}
use Rattle.uc_names.specs.Blocks.{Block}
use Rattle.uc_check_index.specs.Firsts.{AreFirsts}
use Rattle.uc_check_index.specs.Topics.{class_name, forward_name, routine_name, proto_name, constant_name, built_class, class_key, proto_key, routine_key, member_of, member_sig_of, member_key_of}
use Rattle.uc_check_index.specs.declared.topics.MemberTopic.TheVariants as member_topic

pub record AreNamed (items : List Item) (classes forwards routines protos constants builders : List Block) : Type 0 where
  pub classes_are : AreFirsts class_name items classes
  pub forwards_are : AreFirsts forward_name items forwards
  pub routines_are : AreFirsts routine_name items routines
  pub protos_are : AreFirsts proto_name items protos
  pub constants_are : AreFirsts constant_name items constants
  pub builders_are : AreFirsts built_class items builders

pub record AreKeyed (items : List Item) (kinds protos routines members member_sigs : List Block) : Type 0 where
  pub kinds_are : AreFirsts class_key items kinds
  pub protos_are : AreFirsts proto_key items protos
  pub routines_are : AreFirsts routine_key items routines
  pub members_are : AreFirsts member_of items members
  pub sigs_are : AreFirsts member_sig_of items member_sigs

pub record AreProtos (members : List Member) (roles sigs : List Block) : Type 0 where
  pub roles_are : AreFirsts (member_key_of member_topic.Role) members roles
  pub sigs_are : AreFirsts (member_key_of member_topic.Sig) members sigs
