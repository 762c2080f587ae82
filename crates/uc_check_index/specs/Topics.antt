-- Under which key an item stands in a table on some topic, and a member in one of its class.
use Rattle.std.specs.Prelude.{ℕ, List, not, ◌&&◌, Option, Some, None, if◌then◌else◌}
use Rattle.uc_tree.specs.declared.kinds.Owner.{Owner}
use Rattle.uc_tree.specs.declared.kinds.Owner.TheVariants as owner
use Rattle.uc_tree.specs.Programs.{Sig, Routine, Member, MemberForm, FieldsMember, RoutineMember, ProtoMember, Item, ClassItem, RoutineItem, ConstItem, ProtoItem, ForwardItem, UsingItem}
use Rattle.uc_rules.specs.Names.{is_constructor, is_here}
use Rattle.uc_rules.specs.ClassBreaks.{is_empty_body}
use Rattle.uc_rules.specs.ItemBreaks.{outer_name}
use Rattle.uc_check_index.specs.Keys.{sig_key, role_key, member_key, member_sig_key, kind_key}
use Rattle.uc_check_index.specs.declared.topics.NameTopic.{NameTopic}
use Rattle.uc_check_index.specs.declared.topics.NameTopic.TheVariants as name_topic
use Rattle.uc_check_index.specs.declared.topics.KeyTopic.{KeyTopic}
use Rattle.uc_check_index.specs.declared.topics.KeyTopic.TheVariants as key_topic
use Rattle.uc_check_index.specs.declared.topics.MemberTopic.{MemberTopic}
use Rattle.uc_check_index.specs.declared.topics.MemberTopic.TheVariants as member_topic

-- topics on which an item stands under a name

abbrev pub class_name : Item → Option (List ℕ)
class_name (ClassItem c) = Some c.name
class_name (RoutineItem r) = None
class_name (ConstItem c) = None
class_name (ProtoItem sig) = None
class_name (ForwardItem f) = None
class_name (UsingItem at) = None

abbrev pub forward_name : Item → Option (List ℕ)
forward_name (ClassItem c) = None
forward_name (RoutineItem r) = None
forward_name (ConstItem c) = None
forward_name (ProtoItem sig) = None
forward_name (ForwardItem f) = Some f.name
forward_name (UsingItem at) = None

-- a routine of no class
abbrev pub routine_name : Item → Option (List ℕ)
routine_name (ClassItem c) = None
routine_name (RoutineItem r) = outer_name r.sig
routine_name (ConstItem c) = None
routine_name (ProtoItem sig) = None
routine_name (ForwardItem f) = None
routine_name (UsingItem at) = None

abbrev pub proto_name : Item → Option (List ℕ)
proto_name (ClassItem c) = None
proto_name (RoutineItem r) = None
proto_name (ConstItem c) = None
proto_name (ProtoItem sig) = Some sig.name
proto_name (ForwardItem f) = None
proto_name (UsingItem at) = None

abbrev pub constant_name : Item → Option (List ℕ)
constant_name (ClassItem c) = None
constant_name (RoutineItem r) = None
constant_name (ConstItem c) = Some c.name
constant_name (ProtoItem sig) = None
constant_name (ForwardItem f) = None
constant_name (UsingItem at) = None

-- the class of a constructor that stands outside of it and has a statement
abbrev pub class_of : Owner → Option (List ℕ)
class_of owner.Here = None
class_of owner.Main = None
class_of (owner.Class name) = Some name

abbrev pub built_by : Routine → Option (List ℕ)
built_by r = if is_constructor r.sig.role && not (is_empty_body r.body) then class_of r.sig.owner else None

abbrev pub built_class : Item → Option (List ℕ)
built_class (ClassItem c) = None
built_class (RoutineItem r) = built_by r
built_class (ConstItem c) = None
built_class (ProtoItem sig) = None
built_class (ForwardItem f) = None
built_class (UsingItem at) = None

abbrev pub name_of : NameTopic → Item → Option (List ℕ)
name_of name_topic.Class x = class_name x
name_of name_topic.Forward x = forward_name x
name_of name_topic.Routine x = routine_name x
name_of name_topic.Proto x = proto_name x
name_of name_topic.Constant x = constant_name x
name_of name_topic.Builder x = built_class x

-- topics on which it stands under a key that is made

-- a class by its kind and name
abbrev pub class_key : Item → Option (List ℕ)
class_key (ClassItem c) = Some (kind_key c.kind c.name)
class_key (RoutineItem r) = None
class_key (ConstItem c) = None
class_key (ProtoItem sig) = None
class_key (ForwardItem f) = None
class_key (UsingItem at) = None

-- a prototype by its signature
abbrev pub proto_key : Item → Option (List ℕ)
proto_key (ClassItem c) = None
proto_key (RoutineItem r) = None
proto_key (ConstItem c) = None
proto_key (ProtoItem sig) = Some (sig_key sig)
proto_key (ForwardItem f) = None
proto_key (UsingItem at) = None

-- a routine of no class by its signature
abbrev pub outer_key : Sig → Option (List ℕ)
outer_key sig = if is_here sig.owner then Some (sig_key sig) else None

abbrev pub routine_key : Item → Option (List ℕ)
routine_key (ClassItem c) = None
routine_key (RoutineItem r) = outer_key r.sig
routine_key (ConstItem c) = None
routine_key (ProtoItem sig) = None
routine_key (ForwardItem f) = None
routine_key (UsingItem at) = None

-- a routine of a class that stands outside of it, by its class, role and name
abbrev pub owned_key : Owner → Sig → Option (List ℕ)
owned_key owner.Here sig = None
owned_key owner.Main sig = None
owned_key (owner.Class name) sig = Some (member_key name sig)

abbrev pub member_of : Item → Option (List ℕ)
member_of (ClassItem c) = None
member_of (RoutineItem r) = owned_key r.sig.owner r.sig
member_of (ConstItem c) = None
member_of (ProtoItem sig) = None
member_of (ForwardItem f) = None
member_of (UsingItem at) = None

-- the same by its class and signature
abbrev pub owned_sig_key : Owner → Sig → Option (List ℕ)
owned_sig_key owner.Here sig = None
owned_sig_key owner.Main sig = None
owned_sig_key (owner.Class name) sig = Some (member_sig_key name sig)

abbrev pub member_sig_of : Item → Option (List ℕ)
member_sig_of (ClassItem c) = None
member_sig_of (RoutineItem r) = owned_sig_key r.sig.owner r.sig
member_sig_of (ConstItem c) = None
member_sig_of (ProtoItem sig) = None
member_sig_of (ForwardItem f) = None
member_sig_of (UsingItem at) = None

abbrev pub key_of : KeyTopic → Item → Option (List ℕ)
key_of key_topic.Class x = class_key x
key_of key_topic.Proto x = proto_key x
key_of key_topic.Routine x = routine_key x
key_of key_topic.Member x = member_of x
key_of key_topic.MemberSig x = member_sig_of x

-- members

abbrev pub form_role_key : MemberForm → Option (List ℕ)
form_role_key (FieldsMember at b ds) = None
form_role_key (RoutineMember r) = None
form_role_key (ProtoMember sig) = Some (role_key sig)

abbrev pub form_sig_key : MemberForm → Option (List ℕ)
form_sig_key (FieldsMember at b ds) = None
form_sig_key (RoutineMember r) = None
form_sig_key (ProtoMember sig) = Some (sig_key sig)

-- the prototype of a member by its role and name, or by its signature
abbrev pub member_key_of : MemberTopic → Member → Option (List ℕ)
member_key_of member_topic.Role m = form_role_key m.form
member_key_of member_topic.Sig m = form_sig_key m.form
