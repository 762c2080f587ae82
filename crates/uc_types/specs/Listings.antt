-- The names that a class or a program declares, in order, with what they mean.
use Rattle.std.specs.Prelude.{ℕ, ◌+◌, List, [], ◌∷◌, ◌++◌, false, Option, Some, None, if◌then◌else◌}
use Rattle.uc_tree.specs.declared.kinds.Base.{Base}
use Rattle.uc_tree.specs.declared.kinds.Access.{Access}
use Rattle.uc_tree.specs.declared.kinds.MutexMark.{MutexMark}
use Rattle.uc_tree.specs.Names.{same_name}
use Rattle.uc_tree.specs.Numbering.{is_plain}
use Rattle.uc_tree.specs.Statements.{Declarator}
use Rattle.uc_tree.specs.Programs.{Sig, MemberForm, FieldsMember, RoutineMember, ProtoMember, Member, Class, Item, ClassItem, RoutineItem, ConstItem, ProtoItem, ForwardItem, UsingItem, Program}
use Rattle.uc_rules.specs.declared.rules.Entity.TheVariants.{Method, Routine, ClassName}
use Rattle.uc_rules.specs.declared.rules.Origin.TheVariants as origin
use Rattle.uc_rules.specs.declared.rules.NameMeaning.{NameMeaning}
use Rattle.uc_rules.specs.declared.rules.LocalName.{LocalName}
use Rattle.uc_rules.specs.Names.{Owned, place_in, field_meant, is_inner_only, outer, constant_meant, is_here}

-- what the first of a name means
abbrev pub first_named : List LocalName → List ℕ → Option NameMeaning
first_named [] name = None
first_named (s ∷ ss) name = if same_name s.name name then Some s.meant else first_named ss name

abbrev pub seen : List ℕ → NameMeaning → LocalName
seen name m = record { name = name; meant = m }

-- the fields of the member with the place j, of which the first has the place i
abbrev pub fields_seen : Program → Owned → Access → ℕ → ℕ → Base → List Declarator → List LocalName
fields_seen p o a j i b [] = []
fields_seen p o a j i b (d ∷ ds) = seen d.name (field_meant p o a (place_in j i) b d) ∷ fields_seen p o a j (i + 1) b ds

abbrev pub method_meant : Owned → MutexMark → Access → ℕ → NameMeaning
method_meant o m a j = record { entity = Some (Method o.place j (is_inner_only o.class.kind m a) false); origin = origin.Method o.place a }

abbrev pub method_seen : Owned → MutexMark → Access → ℕ → Sig → List LocalName
method_seen o m a j sig = if is_plain sig.role then seen sig.name (method_meant o m a j) ∷ [] else []

abbrev pub form_seen : Program → Owned → MutexMark → Access → ℕ → MemberForm → List LocalName
form_seen p o m a j (FieldsMember at b ds) = fields_seen p o a j 0 b ds
form_seen p o m a j (RoutineMember r) = method_seen o m a j r.sig
form_seen p o m a j (ProtoMember sig) = method_seen o m a j sig

-- members, of which the first has the place j
abbrev pub members_seen : Program → Owned → ℕ → List Member → List LocalName
members_seen p o j [] = []
members_seen p o j (m ∷ ms) = form_seen p o m.mark m.access j m.form ++ members_seen p o (j + 1) ms

abbrev pub class_seen : Program → ℕ → Class → List LocalName
class_seen p i c = members_seen p (record { place = i; class = c }) 0 c.members

-- those of each class, of which the first has the place i
abbrev pub classes_seen : Program → ℕ → List Class → List (List LocalName)
classes_seen p i [] = []
classes_seen p i (c ∷ cs) = class_seen p i c ∷ classes_seen p (i + 1) cs

abbrev pub routine_seen : ℕ → Sig → List LocalName
routine_seen i sig = if is_here sig.owner then seen sig.name (outer (Routine i)) ∷ [] else []

abbrev pub item_seen : Program → ℕ → Item → List LocalName
item_seen p i (ClassItem c) = seen c.name (outer ClassName) ∷ []
item_seen p i (RoutineItem r) = routine_seen i r.sig
item_seen p i (ConstItem c) = seen c.name (constant_meant p c) ∷ []
item_seen p i (ProtoItem sig) = routine_seen i sig
item_seen p i (ForwardItem f) = seen f.name (outer ClassName) ∷ []
item_seen p i (UsingItem at) = []

-- items, of which the first has the place i
abbrev pub items_seen : Program → ℕ → List Item → List LocalName
items_seen p i [] = []
items_seen p i (x ∷ xs) = item_seen p i x ++ items_seen p (i + 1) xs
