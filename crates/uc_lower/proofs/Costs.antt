-- What the fields of a class cost in its constructor and in its destructor is counted by its declarators, and the rest of a routine
-- by the routine.
use Rattle.std.proofs.Common.{◌≡◌, ℕ, zero, suc, ◌+◌, ◌*◌, ◌≤◌, List, [], ◌∷◌, ◌++◌, Option, Some, None, length, take, refl, ap, arith}
use Rattle.std.specs.Prelude.{slice_get}
use Rattle.uc_tree.specs.declared.kinds.Base.{Base}
use Rattle.uc_tree.specs.declared.kinds.Owner.{Owner}
use Rattle.uc_tree.specs.declared.kinds.Owner.TheVariants as owner
use Rattle.uc_tree.specs.Exits.{exits_all}
use Rattle.uc_tree.specs.Expressions.{Expr, Number, Character, Truth, Name, Cin, Postfix, Unary, Chain, Assign}
use Rattle.uc_tree.specs.ExpressionSizes.{expr_size}
use Rattle.uc_tree.specs.Statements.{Declarator}
use Rattle.uc_tree.specs.StatementSizes.{declarator_size, declarators_size, maybe_expr_size, start_size, stmts_size}
use Rattle.uc_tree.specs.Sizes.{inits_size, item_exits, item_size, items_exits, items_size, member_form_exits, member_form_size, members_exits, members_size, program_size}
use Rattle.uc_tree.specs.Programs.{Routine, MemberForm, FieldsMember, RoutineMember, ProtoMember, Member, Class, Item, ClassItem, RoutineItem, ConstItem, ProtoItem, ForwardItem, UsingItem, Program}
use Rattle.uc_tree.specs.Cells.{classes_of}
use Rattle.uc_tree.specs.Numbering.{Defined, defined_by, form_defined, item_defined, items_defined, members_defined, routines_of}
use Rattle.uc_tree.specs.Objects.{ClassField, declared_fields, fields_of, form_fields}

-- fields

abbrev pub length_cost : Option Expr → ℕ
length_cost None = 14
length_cost (Some e) = 48

abbrev pub fields_cost : List ClassField → ℕ
fields_cost [] = 0
fields_cost (f ∷ fs) = length_cost f.declarator.len + fields_cost fs

abbrev pub fields_size : List ClassField → ℕ
fields_size [] = 0
fields_size (f ∷ fs) = declarator_size f.declarator + fields_size fs

expr_one : (e : Expr) → 1 ≤ expr_size e
expr_one (Number pos value) = omega arith
expr_one (Character pos byte) = omega arith
expr_one (Truth pos value) = omega arith
expr_one (Name pos name) = omega arith
expr_one (Cin pos) = omega arith
expr_one (Postfix pos root parts) = omega arith
expr_one (Unary pos op operand) = omega arith
expr_one (Chain pos first rest) = omega arith
expr_one (Assign pos sign op place value) = omega arith

length_few : (len : Option Expr) (k : ℕ) → length_cost len + 48 ≤ 64 * (1 + maybe_expr_size len + k)
length_few None k = omega arith
length_few (Some e) k = let h = expr_one e in omega (arith, h)

pub fields_few : (fs : List ClassField) → fields_cost fs + 48 * length fs ≤ 64 * fields_size fs
fields_few [] = omega arith
fields_few (f ∷ fs) =
    let a = length_few f.declarator.len (start_size f.declarator.start) in
    let b = fields_few fs in
    omega (arith, a, b)

-- the size of a program: its routines, and the fields of its classes

abbrev pub own_size : Routine → ℕ
own_size r = length r.sig.params + inits_size r.inits + stmts_size r.body + exits_all r.body 0

abbrev pub owns : List Defined → ℕ
owns [] = 0
owns (d ∷ ds) = 1 + own_size d.routine + owns ds

abbrev pub class_sizes : List Class → ℕ
class_sizes [] = 0
class_sizes (c ∷ cs) = 1 + fields_size (fields_of c.members) + class_sizes cs

owns_join : (xs ys : List Defined) → owns (xs ++ ys) ≡ owns xs + owns ys
owns_join [] ys = omega arith
owns_join (x ∷ xs) ys = let h = owns_join xs ys in omega (arith, h)

fields_join : (xs ys : List ClassField) → fields_size (xs ++ ys) ≡ fields_size xs + fields_size ys
fields_join [] ys = omega arith
fields_join (x ∷ xs) ys = let h = fields_join xs ys in omega (arith, h)

declared_size : (b : Base) (ds : List Declarator) → fields_size (declared_fields b ds) ≡ declarators_size ds
declared_size b [] = refl
declared_size b (d ∷ ds) = ap (λ n. declarator_size d + n) (declared_size b ds)

abbrev classes_with : Item → List Class → List Class
classes_with (ClassItem x) cs = x ∷ cs
classes_with (RoutineItem x) cs = cs
classes_with (ConstItem x) cs = cs
classes_with (ProtoItem x) cs = cs
classes_with (ForwardItem x) cs = cs
classes_with (UsingItem x) cs = cs

module _ (p : Program) where
  split_form : (name : List ℕ) (f : MemberForm) (ms me : ℕ) (ds : List Defined) (fs : List ClassField) → owns ds + fields_size fs ≤ ms + me → owns (form_defined p name f ++ ds) + fields_size (form_fields f ++ fs) ≤ 1 + member_form_size f + ms + (member_form_exits f + me)
  split_form name (FieldsMember at b xs) ms me ds fs h =
      let j = fields_join (declared_fields b xs) fs in
      let d = declared_size b xs in
      omega (arith, h, j, d)
  split_form name (RoutineMember r) ms me ds fs h = omega (arith, h)
  split_form name (ProtoMember s) ms me ds fs h = omega (arith, h)

  members_split : (name : List ℕ) (ms : List Member) → owns (members_defined p name ms) + fields_size (fields_of ms) ≤ members_size ms + members_exits ms
  members_split name [] = omega arith
  members_split name (m ∷ ms) = split_form name m.form (members_size ms) (members_exits ms) (members_defined p name ms) (fields_of ms) (members_split name ms)

  owner_own : (o : Owner) (r : Routine) → owns (defined_by p o r ∷ []) ≡ 1 + own_size r + 0
  owner_own owner.Here r = refl
  owner_own owner.Main r = refl
  owner_own (owner.Class name) r = refl

  item_split : (i : Item) (s e : ℕ) (ds : List Defined) (cs : List Class) → owns ds + class_sizes cs ≤ s + e → owns (item_defined p i ++ ds) + class_sizes (classes_with i cs) ≤ item_size i + s + (item_exits i + e)
  item_split (ClassItem x) s e ds cs h =
      let j = owns_join (members_defined p x.name x.members) ds in
      let k = members_split x.name x.members in
      omega (arith, h, j, k)
  item_split (RoutineItem r) s e ds cs h =
      let j = owns_join (defined_by p r.sig.owner r ∷ []) ds in
      let k = owner_own r.sig.owner r in
      omega (arith, h, j, k)
  item_split (ConstItem x) s e ds cs h = omega (arith, h)
  item_split (ProtoItem x) s e ds cs h = omega (arith, h)
  item_split (ForwardItem x) s e ds cs h = omega (arith, h)
  item_split (UsingItem x) s e ds cs h = omega (arith, h)

  classes_split : (i : Item) (is : List Item) → classes_of (i ∷ is) ≡ classes_with i (classes_of is)
  classes_split (ClassItem x) is = refl
  classes_split (RoutineItem x) is = refl
  classes_split (ConstItem x) is = refl
  classes_split (ProtoItem x) is = refl
  classes_split (ForwardItem x) is = refl
  classes_split (UsingItem x) is = refl

  items_split : (is : List Item) → owns (items_defined p is) + class_sizes (classes_of is) ≤ items_size is + items_exits is
  items_split [] = omega arith
  items_split (i ∷ is) =
      let e = ap class_sizes (classes_split i is) in
      let h = item_split i (items_size is) (items_exits is) (items_defined p is) (classes_of is) (items_split is) in
      omega (arith, e, h)

  pub size_split : owns (routines_of p) + class_sizes (classes_of p.items) ≤ program_size p
  size_split = items_split p.items

pub owns_push : (xs : List Defined) (x : Defined) → owns (xs ++ x ∷ []) ≡ owns xs + (1 + own_size x.routine)
owns_push xs x = let h = owns_join xs (x ∷ []) in omega (arith, h)

-- one routine among them
pub own_few : (ds : List Defined) (i : ℕ) (d : Defined) → slice_get ds i ≡ Some d → owns (take i ds) + (1 + own_size d.routine) ≤ owns ds
own_few [] i d e = cc
own_few (x ∷ xs) zero d e = let is : x ≡ d = cc in let s : own_size x.routine ≡ own_size d.routine = ap (λ (y : Defined). own_size y.routine) is in omega (arith, s)
own_few (x ∷ xs) (suc i) d e = let h = own_few xs i d e in omega (arith, h)
