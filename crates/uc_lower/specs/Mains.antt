-- Routines in items.
use Rattle.std.specs.Prelude.{ℕ, ◌+◌, List, [], ◌∷◌}
use Rattle.uc_tree.specs.Programs.{MemberForm, FieldsMember, RoutineMember, ProtoMember, Member, Item, ClassItem, RoutineItem, ConstItem, ProtoItem, ForwardItem, UsingItem}

abbrev pub routines_in_form : MemberForm → ℕ
routines_in_form (FieldsMember at b ds) = 0
routines_in_form (RoutineMember routine) = 1
routines_in_form (ProtoMember sig) = 0

abbrev pub routines_in_members : List Member → ℕ
routines_in_members [] = 0
routines_in_members (m ∷ ms) = routines_in_form m.form + routines_in_members ms

abbrev pub routines_in : Item → ℕ
routines_in (ClassItem class) = routines_in_members class.members
routines_in (RoutineItem routine) = 1
routines_in (ConstItem constant) = 0
routines_in (ProtoItem sig) = 0
routines_in (ForwardItem forward) = 0
routines_in (UsingItem place) = 0
