-- How deep the parts of a program stand: the nesting of its tree.
use Rattle.std.specs.Prelude.{ℕ, ◌+◌, max, List, [], ◌∷◌}
use Rattle.uc_tree.specs.Programs.{Init, Routine, MemberForm, FieldsMember, RoutineMember, ProtoMember, Member, Item, ClassItem, RoutineItem, ConstItem, ProtoItem, ForwardItem, UsingItem, Program}
use Rattle.uc_nesting.specs.ExpressionNesting.{expr_nesting, args_nesting}
use Rattle.uc_nesting.specs.StatementNesting.{declarators_nesting, block_nesting}

abbrev pub inits_nesting : List Init → ℕ
inits_nesting [] = 0
inits_nesting (i ∷ is) = max (args_nesting i.args) (inits_nesting is)

abbrev pub routine_nesting : Routine → ℕ
routine_nesting r = max (inits_nesting r.inits) (block_nesting r.body)

abbrev pub form_nesting : MemberForm → ℕ
form_nesting (FieldsMember at base declarators) = declarators_nesting declarators
form_nesting (RoutineMember r) = routine_nesting r
form_nesting (ProtoMember s) = 0

-- the class and each of its members
abbrev pub members_nesting : List Member → ℕ
members_nesting [] = 0
members_nesting (m ∷ ms) = max (form_nesting m.form + 1) (members_nesting ms)

abbrev pub item_nesting : Item → ℕ
item_nesting (ClassItem c) = members_nesting c.members
item_nesting (RoutineItem r) = routine_nesting r
item_nesting (ConstItem c) = expr_nesting c.value
item_nesting (ProtoItem s) = 0
item_nesting (ForwardItem f) = 0
item_nesting (UsingItem pos) = 0

abbrev pub items_nesting : List Item → ℕ
items_nesting [] = 0
items_nesting (i ∷ is) = max (item_nesting i) (items_nesting is)

unfoldable pub nesting : Program → ℕ
nesting p = items_nesting p.items
