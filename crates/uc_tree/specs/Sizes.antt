-- `Size`: what a program counts.
use Rattle.std.specs.Prelude.{ℕ, ◌+◌, List, [], ◌∷◌, length}
use Rattle.uc_tree.specs.ExpressionSizes.{expr_size, exprs_size}
use Rattle.uc_tree.specs.Statements.{Stmt}
use Rattle.uc_tree.specs.StatementSizes.{declarators_size, stmt_size, stmts_size}
use Rattle.uc_tree.specs.Exits.{exits, exits_all}
use Rattle.uc_tree.specs.Programs.{Init, Routine, MemberForm, FieldsMember, RoutineMember, ProtoMember, Member, Class, Item, ClassItem, RoutineItem, ConstItem, ProtoItem, ForwardItem, UsingItem, Program}

-- the items, members, parameters, declarators, initialisers, statements, accept clauses, handlers, raised events, printed
-- items and expressions, with each operator of a chain and each part of a postfix one more

abbrev pub inits_size : List Init → ℕ
inits_size [] = 0
inits_size (i ∷ is) = 1 + exprs_size i.args + inits_size is

-- the block that is a routine's body is not counted, but what is in it
abbrev pub routine_size : Routine → ℕ
routine_size r = length r.sig.params + inits_size r.inits + stmts_size r.body

abbrev pub member_form_size : MemberForm → ℕ
member_form_size (FieldsMember at base declarators) = declarators_size declarators
member_form_size (RoutineMember routine) = routine_size routine
member_form_size (ProtoMember sig) = length sig.params

abbrev pub members_size : List Member → ℕ
members_size [] = 0
members_size (m ∷ ms) = 1 + member_form_size m.form + members_size ms

abbrev pub item_size : Item → ℕ
item_size (ClassItem class) = 1 + members_size class.members
item_size (RoutineItem routine) = 1 + routine_size routine
item_size (ConstItem constant) = 1 + expr_size constant.value
item_size (ProtoItem sig) = 1 + length sig.params
item_size (ForwardItem forward) = 1
item_size (UsingItem pos) = 1

abbrev pub items_size : List Item → ℕ
items_size [] = 0
items_size (i ∷ is) = item_size i + items_size is

-- the declarators in scope at each way out

abbrev pub routine_exits : Routine → ℕ
routine_exits r = exits_all r.body 0

abbrev pub member_form_exits : MemberForm → ℕ
member_form_exits (FieldsMember at base declarators) = 0
member_form_exits (RoutineMember routine) = routine_exits routine
member_form_exits (ProtoMember sig) = 0

abbrev pub members_exits : List Member → ℕ
members_exits [] = 0
members_exits (m ∷ ms) = member_form_exits m.form + members_exits ms

abbrev pub item_exits : Item → ℕ
item_exits (ClassItem class) = members_exits class.members
item_exits (RoutineItem routine) = routine_exits routine
item_exits (ConstItem constant) = 0
item_exits (ProtoItem sig) = 0
item_exits (ForwardItem forward) = 0
item_exits (UsingItem pos) = 0

abbrev pub items_exits : List Item → ℕ
items_exits [] = 0
items_exits (i ∷ is) = item_exits i + items_exits is

-- `Size` of a program, and of pieces: of a statement with so many declarators in scope round it, of a class

abbrev pub program_size : Program → ℕ
program_size p = items_size p.items + items_exits p.items

abbrev pub size_at : Stmt → ℕ → ℕ
size_at s k = stmt_size s + exits s k

abbrev pub class_size : Class → ℕ
class_size c = 1 + members_size c.members + members_exits c.members
