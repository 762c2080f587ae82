-- What the rules ask of items: one program main, names that are declared twice, prototypes and what is defined outside of classes.
use Rattle.std.specs.Prelude.{ℕ, ◌+◌, List, [], ◌∷◌, Bool, true, false, not, ◌&&◌, ◌||◌, Option, Some, None, nat_eq, length, take, if◌then◌else◌}
use Rattle.std.specs.List.{list_any}
use Rattle.uc_tree.specs.declared.pos.Pos.{Pos}
use Rattle.uc_tree.specs.declared.kinds.Base.{Base}
use Rattle.uc_tree.specs.declared.kinds.Base.TheVariants as base
use Rattle.uc_tree.specs.declared.kinds.Kind.{Kind}
use Rattle.uc_tree.specs.declared.kinds.Kind.TheVariants as kind
use Rattle.uc_tree.specs.declared.kinds.Owner.{Owner}
use Rattle.uc_tree.specs.declared.kinds.Owner.TheVariants as owner
use Rattle.uc_tree.specs.declared.kinds.Param.{Param}
use Rattle.uc_tree.specs.declared.kinds.Forward.{Forward}
use Rattle.uc_tree.specs.Names.{same_name}
use Rattle.uc_tree.specs.Numbering.{main_name, is_given, is_event, is_plain}
use Rattle.uc_tree.specs.Programs.{Sig, MemberForm, FieldsMember, RoutineMember, ProtoMember, Class, Item, ClassItem, RoutineItem, ConstItem, ProtoItem, ForwardItem, UsingItem, Program}
use Rattle.uc_rules.specs.declared.rule.Rule.TheVariants.{S3, S5}
use Rattle.uc_rules.specs.declared.rule.Break.{Break}
use Rattle.uc_rules.specs.declared.rules.OwnClass.{OwnClass}
use Rattle.uc_rules.specs.Sorts.{class_at, is_coroutine, is_cormonitor, is_task}
use Rattle.uc_rules.specs.Names.{is_destructor, is_here}
use Rattle.uc_rules.specs.ProgramVisits.{same_role, owner_home}
use Rattle.uc_rules.specs.Asked.{unless}
use Rattle.uc_rules.specs.ClassBreaks.{is_void_base, is_owner}

-- S3: the program's main is `void uMain::main()` or `int main()` outside of classes, without parameters
abbrev pub is_int_base : Base → Bool
is_int_base base.Int = true
is_int_base _ = false

abbrev pub is_main_base : Owner → Base → Bool
is_main_base owner.Here b = is_int_base b
is_main_base owner.Main b = is_void_base b
is_main_base (owner.Class name) b = false

abbrev pub is_program_main : Sig → Bool
is_program_main sig = is_plain sig.role && (same_name sig.name main_name && (is_main_base sig.owner sig.ret && nat_eq (length sig.params) 0))

abbrev pub item_mains : Item → ℕ
item_mains (RoutineItem r) = if is_program_main r.sig then 1 else 0
item_mains _ = 0

abbrev pub mains_in : List Item → ℕ
mains_in [] = 0
mains_in (x ∷ xs) = item_mains x + mains_in xs

abbrev pub first_place : Pos
first_place = record { line = 1; col = 1 }

abbrev pub main_breaks : Program → List Break
main_breaks p = unless (nat_eq (mains_in p.items) 1) S3 first_place

-- S2: names that are declared twice. A prototype and its routine are one declaration, and a forward class and its class; of two
-- routines with a prototype the rule on prototypes asks.

abbrev pub outer_name : Sig → Option (List ℕ)
outer_name sig = if is_here sig.owner then Some sig.name else None

abbrev pub item_name : Item → Option (List ℕ)
item_name (ClassItem c) = Some c.name
item_name (RoutineItem r) = outer_name r.sig
item_name (ConstItem c) = Some c.name
item_name (ProtoItem sig) = Some sig.name
item_name (ForwardItem f) = Some f.name
item_name (UsingItem at) = None

abbrev pub item_pos : Item → Pos
item_pos (ClassItem c) = c.pos
item_pos (RoutineItem r) = r.sig.pos
item_pos (ConstItem c) = c.pos
item_pos (ProtoItem sig) = sig.pos
item_pos (ForwardItem f) = f.pos
item_pos (UsingItem at) = at

abbrev pub is_class_item : Item → Bool
is_class_item (ClassItem c) = true
is_class_item _ = false

abbrev pub is_forward_item : Item → Bool
is_forward_item (ForwardItem f) = true
is_forward_item _ = false

abbrev pub is_routine_item : Item → Bool
is_routine_item (RoutineItem r) = true
is_routine_item _ = false

abbrev pub is_proto_item : Item → Bool
is_proto_item (ProtoItem sig) = true
is_proto_item _ = false

abbrev pub is_named : Option (List ℕ) → List ℕ → Bool
is_named None name = false
is_named (Some n) name = same_name n name

abbrev pub is_named_proto : List ℕ → Item → Bool
is_named_proto name x = is_proto_item x && is_named (item_name x) name

-- whether an earlier declaration of the same name is one with this one: `proto` says whether the name has a prototype
abbrev pub are_one : Bool → Item → Item → Bool
are_one proto x (ClassItem c) = is_forward_item x
are_one proto x (RoutineItem r) = is_proto_item x || (proto && is_routine_item x)
are_one proto x (ProtoItem sig) = is_routine_item x
are_one proto x (ForwardItem f) = is_class_item x
are_one proto x _ = false

abbrev pub clashes : Bool → List ℕ → Item → Item → Bool
clashes proto name later earlier = is_named (item_name earlier) name && not (are_one proto earlier later)

abbrev pub is_new_item : Program → Item → ℕ → Option (List ℕ) → Bool
is_new_item p x place None = true
is_new_item p x place (Some name) = not (list_any (clashes (list_any (is_named_proto name) p.items) name x) (take place p.items) || is_given name)

-- S5: signatures that are the same: names of parameters do not matter

abbrev pub is_char_base : Base → Bool
is_char_base base.Char = true
is_char_base _ = false

abbrev pub is_bool_base : Base → Bool
is_bool_base base.Bool = true
is_bool_base _ = false

abbrev pub is_condition_base : Base → Bool
is_condition_base base.Condition = true
is_condition_base _ = false

abbrev pub is_cluster_base : Base → Bool
is_cluster_base base.Cluster = true
is_cluster_base _ = false

abbrev pub is_processor_base : Base → Bool
is_processor_base base.Processor = true
is_processor_base _ = false

abbrev pub is_base_named : List ℕ → Base → Bool
is_base_named name (base.Named n) = same_name name n
is_base_named name _ = false

abbrev pub same_base : Base → Base → Bool
same_base base.Void b = is_void_base b
same_base base.Int b = is_int_base b
same_base base.Char b = is_char_base b
same_base base.Bool b = is_bool_base b
same_base base.Condition b = is_condition_base b
same_base base.Cluster b = is_cluster_base b
same_base base.Processor b = is_processor_base b
same_base (base.Named name) b = is_base_named name b

abbrev pub same_flag : Bool → Bool → Bool
same_flag true b = b
same_flag false b = not b

abbrev pub same_params : List Param → List Param → Bool
same_params [] [] = true
same_params [] (y ∷ ys) = false
same_params (x ∷ xs) [] = false
same_params (x ∷ xs) (y ∷ ys) = (same_base x.base y.base && same_flag x.by_ref y.by_ref) && same_params xs ys

abbrev pub same_sig : Sig → Sig → Bool
same_sig a b = same_role a.role b.role && (same_name a.name b.name && (same_base a.ret b.ret && same_params a.params b.params))

-- S5 outside of classes

-- a routine outside of classes, of this name or with this signature
abbrev pub defines_name : List ℕ → Item → Bool
defines_name name (RoutineItem r) = is_here r.sig.owner && same_name r.sig.name name
defines_name name _ = false

abbrev pub defines_sig : Sig → Item → Bool
defines_sig sig (RoutineItem r) = is_here r.sig.owner && same_sig sig r.sig
defines_sig sig _ = false

abbrev pub declares_sig : Sig → Item → Bool
declares_sig sig (ProtoItem s) = same_sig s sig
declares_sig sig _ = false

-- a routine that has a prototype has one with its signature, and is the first of its name
abbrev pub is_well_declared : Program → Sig → ℕ → Bool
is_well_declared p sig place = not (list_any (is_named_proto sig.name) p.items) || (list_any (declares_sig sig) p.items && not (list_any (defines_name sig.name) (take place p.items)))

-- S5 of members

-- the prototype of a member with this signature
abbrev pub form_declares_sig : Sig → MemberForm → Bool
form_declares_sig sig (ProtoMember s) = same_sig s sig
form_declares_sig sig _ = false

abbrev pub class_declares : Sig → Option Class → Bool
class_declares sig None = false
class_declares sig (Some c) = list_any (λ m. form_declares_sig sig m.form) c.members

-- a constructor or destructor has its class's name, and a destructor no parameters
abbrev pub has_class_name : List ℕ → Sig → Bool
has_class_name name sig = (is_plain sig.role || same_name sig.name name) && (not (is_destructor sig.role) || nat_eq (length sig.params) 0)

-- a definition of a member outside of its class
abbrev pub defines_member : List ℕ → Sig → Item → Bool
defines_member class sig (RoutineItem r) = is_owner class r.sig.owner && (same_role sig.role r.sig.role && same_name sig.name r.sig.name)
defines_member class sig _ = false

abbrev pub defines_member_sig : List ℕ → Sig → Item → Bool
defines_member_sig class sig (RoutineItem r) = is_owner class r.sig.owner && same_sig sig r.sig
defines_member_sig class sig _ = false

-- what is defined outside is declared in its class, and defined once
abbrev pub is_member_definition : Program → List ℕ → Option OwnClass → Sig → ℕ → Bool
is_member_definition p class None sig place = false
is_member_definition p class (Some h) sig place = has_class_name class sig && (class_declares sig (class_at p h.class) && not (list_any (defines_member class sig) (take place p.items)))

abbrev pub is_definition : Program → Owner → Sig → ℕ → Bool
is_definition p owner.Here sig place = is_well_declared p sig place
is_definition p owner.Main sig place = is_program_main sig
is_definition p (owner.Class name) sig place = is_member_definition p name (owner_home p (owner.Class name)) sig place

-- a routine of this role in a class
abbrev pub has_role : Sig → MemberForm → Bool
has_role sig (FieldsMember at b ds) = false
has_role sig (RoutineMember r) = same_role sig.role r.sig.role
has_role sig (ProtoMember s) = same_role sig.role s.role

abbrev pub is_only_one : Class → Sig → ℕ → Bool
is_only_one c sig member = is_plain sig.role || not (list_any (λ m. has_role sig m.form) (take member c.members))

-- whether the member with this place is a prototype
abbrev pub is_proto_form : MemberForm → Bool
is_proto_form (ProtoMember sig) = true
is_proto_form _ = false

abbrev pub is_defined : Program → Class → Bool → Sig → Bool
is_defined p c true sig = list_any (defines_member_sig c.name sig) p.items
is_defined p c false sig = true

abbrev pub is_sound_member : Program → Class → Bool → Sig → ℕ → Bool
is_sound_member p c proto sig member = has_class_name c.name sig && (is_only_one c sig member && is_defined p c proto sig)

-- S5 of forward classes: a class of the name and the kind

abbrev pub is_class_kind : Kind → Bool
is_class_kind kind.Class = true
is_class_kind _ = false

abbrev pub is_monitor : Kind → Bool
is_monitor kind.Monitor = true
is_monitor _ = false

abbrev pub same_kind : Kind → Kind → Bool
same_kind kind.Class k = is_class_kind k
same_kind kind.Coroutine k = is_coroutine k
same_kind kind.Monitor k = is_monitor k
same_kind kind.Cormonitor k = is_cormonitor k
same_kind kind.Task k = is_task k
same_kind kind.Event k = is_event k

abbrev pub is_class_of : Forward → Item → Bool
is_class_of f (ClassItem c) = same_name c.name f.name && same_kind f.kind c.kind
is_class_of f _ = false

-- an item, by its place
abbrev pub is_sound_item : Program → Item → ℕ → Bool
is_sound_item p (RoutineItem r) place = is_definition p r.sig.owner r.sig place
is_sound_item p (ProtoItem sig) place = list_any (defines_sig sig) p.items
is_sound_item p (ForwardItem f) place = list_any (is_class_of f) p.items
is_sound_item p _ place = true

abbrev pub item_breaks : Program → Item → ℕ → List Break
item_breaks p x place = unless (is_sound_item p x place) S5 (item_pos x)
