-- What the names of a program stand for: members of classes, and what all of the program sees.
use Rattle.std.specs.Prelude.{ℕ, ◌+◌, List, [], ◌∷◌, Bool, true, false, not, ◌&&◌, ◌||◌, Option, Some, None, option_map, option_and_then, if◌then◌else◌, nat_eq, nat_lt, slice_get}
use Rattle.uc_tree.specs.declared.kinds.Base.{Base}
use Rattle.uc_tree.specs.declared.kinds.Kind.{Kind}
use Rattle.uc_tree.specs.declared.kinds.Access.{Access}
use Rattle.uc_tree.specs.declared.kinds.MutexMark.{MutexMark}
use Rattle.uc_tree.specs.declared.kinds.MutexMark.TheVariants as mark
use Rattle.uc_tree.specs.declared.kinds.Role.{Role}
use Rattle.uc_tree.specs.declared.kinds.Role.TheVariants as role
use Rattle.uc_tree.specs.declared.kinds.Owner.{Owner}
use Rattle.uc_tree.specs.declared.kinds.Owner.TheVariants as owner
use Rattle.uc_tree.specs.declared.kinds.Param.{Param}
use Rattle.uc_tree.specs.Names.{same_name}
use Rattle.uc_tree.specs.Constants.{constants_of, elements}
use Rattle.uc_tree.specs.Cells.{seen_in}
use Rattle.uc_tree.specs.Numbering.{is_mutex, is_public, is_exclusive, is_plain, is_given}
use Rattle.uc_tree.specs.Statements.{Declarator}
use Rattle.uc_tree.specs.Programs.{Sig, Constant, MemberForm, FieldsMember, RoutineMember, ProtoMember, Member, Class, Item, ClassItem, RoutineItem, ConstItem, ProtoItem, ForwardItem, UsingItem, Program}
use Rattle.uc_rules.specs.declared.rules.Sort.{Sort}
use Rattle.uc_rules.specs.declared.rules.Entity.{Entity}
use Rattle.uc_rules.specs.declared.rules.Entity.TheVariants.{Value, Place, Array, Main, Method, ClassName}
use Rattle.uc_rules.specs.declared.rules.Entity.TheVariants as entity
use Rattle.uc_rules.specs.declared.rules.Origin.TheVariants as origin
use Rattle.uc_rules.specs.declared.rules.FieldPlace.{FieldPlace}
use Rattle.uc_rules.specs.declared.rules.NameMeaning.{NameMeaning}
use Rattle.uc_rules.specs.Sorts.{sort_of, class_at}

-- a variable of this sort, with or without a length; a reference is no array
abbrev pub variable : {A : Type 0} → Bool → Option A → ℕ → Sort → Entity
variable true len n s = Place s
variable false None n s = Place s
variable false (Some e) n s = Array s n

-- what a declarator declares, where its length, if it has one, has this value
abbrev pub declared_entity : Program → Base → Declarator → ℕ → Option Entity
declared_entity p b d n = option_map (variable d.by_ref d.len n) (sort_of p b)

-- members of classes

-- the class of a member
pub record Owned : Type 0 where
  pub place : ℕ
  pub class : Class

abbrev pub is_constructor : Role → Bool
is_constructor role.Constructor = true
is_constructor _ = false

abbrev pub is_destructor : Role → Bool
is_destructor role.Destructor = true
is_destructor _ = false

abbrev pub is_nomutex : MutexMark → Bool
is_nomutex mark.Nomutex = true
is_nomutex _ = false

-- what only inner routines of its class may call: a member of a mutex type that is neither a mutex member nor public and
-- marked `_Nomutex`
abbrev pub is_inner_only : Kind → MutexMark → Access → Bool
is_inner_only k m a = is_mutex k && not (is_exclusive m a || (is_nomutex m && is_public a))

abbrev pub place_in : ℕ → ℕ → FieldPlace
place_in j i = record { member = j; index = i }

-- whether a field stands before another one of its class
abbrev pub is_field_before : FieldPlace → FieldPlace → Bool
is_field_before x y = nat_lt x.member y.member || (nat_eq x.member y.member && nat_lt x.index y.index)

abbrev pub field_meant : Program → Owned → Access → FieldPlace → Base → Declarator → NameMeaning
field_meant p o a place b d = record {
  entity = declared_entity p b d (elements (seen_in (constants_of p.items) o.class) d);
  origin = origin.Field o.place o.class.kind a d.by_ref place;
}

-- the fields of the member with the place j, of which the first has the place i
abbrev pub field_named : Program → Owned → Access → ℕ → ℕ → Base → List Declarator → List ℕ → Option NameMeaning
field_named p o a j i b [] name = None
field_named p o a j i b (d ∷ ds) name = if same_name d.name name then Some (field_meant p o a (place_in j i) b d) else field_named p o a j (i + 1) b ds name

-- constructors and destructors have no name of their own
abbrev pub method_named : Owned → MutexMark → Access → ℕ → Sig → List ℕ → Option NameMeaning
method_named o m a j sig name =
    if is_plain sig.role && same_name sig.name name then
    Some (record { entity = Some (Method o.place j (is_inner_only o.class.kind m a) false); origin = origin.Method o.place a })
    else None

abbrev pub form_named : Program → Owned → MutexMark → Access → ℕ → MemberForm → List ℕ → Option NameMeaning
form_named p o m a j (FieldsMember at b ds) name = field_named p o a j 0 b ds name
form_named p o m a j (RoutineMember r) name = method_named o m a j r.sig name
form_named p o m a j (ProtoMember sig) name = method_named o m a j sig name

abbrev pub first_of : {A : Type 0} → Option A → Option A → Option A
first_of (Some x) other = Some x
first_of None other = other

-- of members with one name the first is meant
abbrev pub members_named : Program → Owned → ℕ → List Member → List ℕ → Option NameMeaning
members_named p o j [] name = None
members_named p o j (m ∷ ms) name = first_of (form_named p o m.mark m.access j m.form name) (members_named p o (j + 1) ms name)

abbrev pub member_in : Program → ℕ → Option Class → List ℕ → Option NameMeaning
member_in p i None name = None
member_in p i (Some c) name = members_named p (record { place = i; class = c }) 0 c.members name

-- a member of the class with this place
abbrev pub member_named : Program → ℕ → List ℕ → Option NameMeaning
member_named p i name = member_in p i (class_at p i) name

-- what all of the program sees: constants, routines, classes and events; the first of a name is meant

abbrev pub outer : Entity → NameMeaning
outer e = record { entity = Some e; origin = origin.Outer }

abbrev pub constant_meant : Program → Constant → NameMeaning
constant_meant p c = record { entity = option_map (λ s. Value s) (sort_of p c.base); origin = origin.Outer }

abbrev pub is_here : Owner → Bool
is_here owner.Here = true
is_here _ = false

abbrev pub routine_named : ℕ → Sig → List ℕ → Option NameMeaning
routine_named i sig name = if is_here sig.owner && same_name sig.name name then Some (outer (entity.Routine i)) else None

abbrev pub item_named : Program → ℕ → Item → List ℕ → Option NameMeaning
item_named p i (ClassItem c) name = if same_name c.name name then Some (outer ClassName) else None
item_named p i (RoutineItem r) name = routine_named i r.sig name
item_named p i (ConstItem c) name = if same_name c.name name then Some (constant_meant p c) else None
item_named p i (ProtoItem sig) name = routine_named i sig name
item_named p i (ForwardItem f) name = if same_name f.name name then Some (outer ClassName) else None
item_named p i (UsingItem at) name = None

abbrev pub items_named : Program → ℕ → List Item → List ℕ → Option NameMeaning
items_named p i [] name = None
items_named p i (x ∷ xs) name = first_of (item_named p i x name) (items_named p (i + 1) xs name)

abbrev pub outer_named : Program → List ℕ → Option NameMeaning
outer_named p name = if is_given name then Some (outer ClassName) else items_named p 0 p.items name

-- signatures of what is called

abbrev pub item_sig : Item → Option Sig
item_sig (RoutineItem r) = Some r.sig
item_sig (ProtoItem sig) = Some sig
item_sig _ = None

abbrev pub form_sig : MemberForm → Option Sig
form_sig (FieldsMember at b ds) = None
form_sig (RoutineMember r) = Some r.sig
form_sig (ProtoMember sig) = Some sig

abbrev pub routine_sig : Program → ℕ → Option Sig
routine_sig p i = option_and_then item_sig (slice_get p.items i)

abbrev pub method_sig : Program → ℕ → ℕ → Option Sig
method_sig p i j = option_and_then (λ c. option_and_then (λ m. form_sig m.form) (slice_get c.members j)) (class_at p i)

-- the first constructor of a class

abbrev pub constructor_form : MemberForm → Option Sig
constructor_form (FieldsMember at b ds) = None
constructor_form (RoutineMember r) = if is_constructor r.sig.role then Some r.sig else None
constructor_form (ProtoMember sig) = if is_constructor sig.role then Some sig else None

abbrev pub constructor_among : List Member → Option Sig
constructor_among [] = None
constructor_among (m ∷ ms) = first_of (constructor_form m.form) (constructor_among ms)

abbrev pub params_in : Option Sig → List Param
params_in None = []
params_in (Some sig) = sig.params

-- what an object of the class is built with; nothing where it has no constructor
abbrev pub constructor_params : Program → ℕ → List Param
constructor_params p i = params_in (option_and_then (λ c. constructor_among c.members) (class_at p i))
