-- The tests of the rules on items and members as look-ups of keys.
use Rattle.std.proofs.Common.{◌≡◌, ℕ, List, Bool, true, false, not, ◌&&◌, Some, None, if◌then◌else◌, refl, ap, ◌∙◌}
use Rattle.uc_tree.specs.declared.kinds.Owner.{Owner}
use Rattle.uc_tree.specs.declared.kinds.Owner.TheVariants as owner
use Rattle.uc_tree.specs.declared.kinds.Forward.{Forward}
use Rattle.uc_tree.specs.Names.{same_name}
use Rattle.uc_tree.specs.Programs.{Sig, MemberForm, FieldsMember, RoutineMember, ProtoMember, Item, ClassItem, RoutineItem, ConstItem, ProtoItem, ForwardItem, UsingItem}
use Rattle.uc_rules.specs.Names.{is_constructor, is_here}
use Rattle.uc_rules.specs.ProgramVisits.{form_declares, same_role}
use Rattle.uc_rules.specs.ClassBreaks.{builds_more, is_empty_body, is_owner}
use Rattle.uc_rules.specs.ItemBreaks.{declares_sig, defines_member, defines_member_sig, defines_name, defines_sig, form_declares_sig, is_class_of, is_named, is_named_proto, same_sig}
use Rattle.uc_check_index.specs.Keys.{kind_key, member_key, member_sig_key, role_key, sig_key}
use Rattle.uc_check_index.specs.Topics.{built_class, class_key, class_of, form_role_key, form_sig_key, member_of, member_sig_of, owned_key, owned_sig_key, proto_key, proto_name, routine_key, routine_name}
use Rattle.uc_check_index.proofs.KeysLemmas.{kinds_back, member_sigs_back, members_back, rolled_back, sigs_back, sigs_same}

pub protos_named : (name : List ℕ) (x : Item) → is_named (proto_name x) name ≡ is_named_proto name x
protos_named name (ClassItem c) = refl
protos_named name (RoutineItem r) = refl
protos_named name (ConstItem c) = refl
protos_named name (ProtoItem sig) = refl
protos_named name (ForwardItem f) = refl
protos_named name (UsingItem at) = refl

outer_is : (b : Bool) (n name : List ℕ) → is_named (if b then Some n else None) name ≡ (b && same_name n name)
outer_is true n name = refl
outer_is false n name = refl

pub routines_named : (name : List ℕ) (x : Item) → is_named (routine_name x) name ≡ defines_name name x
routines_named name (ClassItem c) = refl
routines_named name (RoutineItem r) = outer_is (is_here r.sig.owner) r.sig.name name
routines_named name (ConstItem c) = refl
routines_named name (ProtoItem sig) = refl
routines_named name (ForwardItem f) = refl
routines_named name (UsingItem at) = refl

pub protos_keyed : (sig : Sig) (x : Item) → is_named (proto_key x) (sig_key sig) ≡ declares_sig sig x
protos_keyed sig (ClassItem c) = refl
protos_keyed sig (RoutineItem r) = refl
protos_keyed sig (ConstItem c) = refl
protos_keyed sig (ProtoItem s) = sigs_same s sig
protos_keyed sig (ForwardItem f) = refl
protos_keyed sig (UsingItem at) = refl

pub routines_keyed : (sig : Sig) (x : Item) → is_named (routine_key x) (sig_key sig) ≡ defines_sig sig x
routines_keyed sig (ClassItem c) = refl
routines_keyed sig (RoutineItem r) = outer_is (is_here r.sig.owner) (sig_key r.sig) (sig_key sig) ∙ ap (λ t. is_here r.sig.owner && t) (sigs_back r.sig sig)
routines_keyed sig (ConstItem c) = refl
routines_keyed sig (ProtoItem s) = refl
routines_keyed sig (ForwardItem f) = refl
routines_keyed sig (UsingItem at) = refl

owned_is : (class : List ℕ) (sig own : Sig) (o : Owner) → is_named (owned_key o own) (member_key class sig) ≡ (is_owner class o && (same_role sig.role own.role && same_name sig.name own.name))
owned_is class sig own owner.Here = refl
owned_is class sig own owner.Main = refl
owned_is class sig own (owner.Class c) = members_back c class own sig

pub members_keyed : (class : List ℕ) (sig : Sig) (x : Item) → is_named (member_of x) (member_key class sig) ≡ defines_member class sig x
members_keyed class sig (ClassItem c) = refl
members_keyed class sig (RoutineItem r) = owned_is class sig r.sig r.sig.owner
members_keyed class sig (ConstItem c) = refl
members_keyed class sig (ProtoItem s) = refl
members_keyed class sig (ForwardItem f) = refl
members_keyed class sig (UsingItem at) = refl

owned_sig_is : (class : List ℕ) (sig own : Sig) (o : Owner) → is_named (owned_sig_key o own) (member_sig_key class sig) ≡ (is_owner class o && same_sig sig own)
owned_sig_is class sig own owner.Here = refl
owned_sig_is class sig own owner.Main = refl
owned_sig_is class sig own (owner.Class c) = member_sigs_back c class own sig

pub member_sigs_keyed : (class : List ℕ) (sig : Sig) (x : Item) → is_named (member_sig_of x) (member_sig_key class sig) ≡ defines_member_sig class sig x
member_sigs_keyed class sig (ClassItem c) = refl
member_sigs_keyed class sig (RoutineItem r) = owned_sig_is class sig r.sig r.sig.owner
member_sigs_keyed class sig (ConstItem c) = refl
member_sigs_keyed class sig (ProtoItem s) = refl
member_sigs_keyed class sig (ForwardItem f) = refl
member_sigs_keyed class sig (UsingItem at) = refl

pub classes_keyed : (f : Forward) (x : Item) → is_named (class_key x) (kind_key f.kind f.name) ≡ is_class_of f x
classes_keyed f (ClassItem c) = kinds_back c.kind f.kind c.name f.name
classes_keyed f (RoutineItem r) = refl
classes_keyed f (ConstItem c) = refl
classes_keyed f (ProtoItem s) = refl
classes_keyed f (ForwardItem g) = refl
classes_keyed f (UsingItem at) = refl

and_false : (a : Bool) → false ≡ (a && false)
and_false true = refl
and_false false = refl

built_case : (name : List ℕ) (b : Bool) (o : Owner) → is_named (if b then class_of o else None) name ≡ (is_owner name o && b)
built_case name true owner.Here = refl
built_case name true owner.Main = refl
built_case name true (owner.Class c) = and_true (same_name c name)
  where
    and_true : (a : Bool) → a ≡ (a && true)
    and_true true = refl
    and_true false = refl
built_case name false owner.Here = refl
built_case name false owner.Main = refl
built_case name false (owner.Class c) = and_false (same_name c name)

pub builders_named : (name : List ℕ) (x : Item) → is_named (built_class x) name ≡ builds_more name x
builders_named name (ClassItem c) = refl
builders_named name (RoutineItem r) = built_case name (is_constructor r.sig.role && not (is_empty_body r.body)) r.sig.owner
builders_named name (ConstItem c) = refl
builders_named name (ProtoItem s) = refl
builders_named name (ForwardItem f) = refl
builders_named name (UsingItem at) = refl

pub form_roles_keyed : (sig : Sig) (f : MemberForm) → is_named (form_role_key f) (role_key sig) ≡ form_declares sig f
form_roles_keyed sig (FieldsMember at b ds) = refl
form_roles_keyed sig (RoutineMember r) = refl
form_roles_keyed sig (ProtoMember s) = rolled_back s sig

pub form_sigs_keyed : (sig : Sig) (f : MemberForm) → is_named (form_sig_key f) (sig_key sig) ≡ form_declares_sig sig f
form_sigs_keyed sig (FieldsMember at b ds) = refl
form_sigs_keyed sig (RoutineMember r) = refl
form_sigs_keyed sig (ProtoMember s) = sigs_same s sig
