-- The routines of a program, by its classes.
use Rattle.std.specs.Prelude.{◌≡◌, ℕ, List, [], ◌∷◌, ◌++◌, false, None, option_map, option_and_then, unwrap_or, if◌then◌else◌}
use Rattle.uc_tree.specs.declared.limits.TheConstants.{LAST_CLASS}
use Rattle.uc_tree.specs.declared.kinds.Owner.{Owner}
use Rattle.uc_tree.specs.declared.kinds.Owner.TheVariants as owner
use Rattle.uc_tree.specs.Programs.{Class, Routine, MemberForm, FieldsMember, RoutineMember, ProtoMember, Member, Item, ClassItem, RoutineItem, ConstItem, ProtoItem, ForwardItem, UsingItem}
use Rattle.uc_tree.specs.Numbering.{Defined, at_most, is_event, place_from, class_names, class_named}
use Rattle.uc_numbering.specs.declared.routines.Defined.{Defined as Found}

-- a routine that was found
abbrev pub defined_at : Found → Defined
defined_at d = record { class = option_map (λ c. c.now) d.class; number = d.number; routine = d.routine.now }

-- the classes that are no events
abbrev pub objects_of : List Class → List Class
objects_of [] = []
objects_of (c ∷ cs) = if is_event c.kind then objects_of cs else c ∷ objects_of cs

abbrev pub AreObjects : List Class → Type 0
AreObjects [] = Unit {0}
AreObjects (c ∷ cs) = (is_event c.kind ≡ false) × AreObjects cs

abbrev pub in_classes : List Class → List ℕ → Routine → Defined
in_classes cs name r = record { class = class_named cs name; number = unwrap_or (option_and_then (at_most LAST_CLASS) (place_from 1 (class_names cs) name)) 0; routine = r }

abbrev pub owned : List Class → Owner → Routine → Defined
owned cs owner.Here r = record { class = None; number = 0; routine = r }
owned cs owner.Main r = record { class = None; number = 0; routine = r }
owned cs (owner.Class name) r = in_classes cs name r

abbrev pub form_in : List Class → List ℕ → MemberForm → List Defined
form_in cs name (FieldsMember at b ds) = []
form_in cs name (RoutineMember routine) = in_classes cs name routine ∷ []
form_in cs name (ProtoMember sig) = []

abbrev pub members_in : List Class → List ℕ → List Member → List Defined
members_in cs name [] = []
members_in cs name (m ∷ ms) = form_in cs name m.form ++ members_in cs name ms

abbrev pub item_in : List Class → Item → List Defined
item_in cs (ClassItem c) = members_in cs c.name c.members
item_in cs (RoutineItem r) = owned cs r.sig.owner r ∷ []
item_in cs (ConstItem constant) = []
item_in cs (ProtoItem sig) = []
item_in cs (ForwardItem forward) = []
item_in cs (UsingItem place) = []

abbrev pub items_in : List Class → List Item → List Defined
items_in cs [] = []
items_in cs (i ∷ is) = item_in cs i ++ items_in cs is
