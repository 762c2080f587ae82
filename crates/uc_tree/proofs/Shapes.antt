-- What an object holds takes as many cells as are counted for its class.
use Rattle.std.proofs.Common.{◌≡◌, ℕ, zero, suc, ◌+◌, ◌*◌, ℤ, Bool, true, false, List, [], ◌∷◌, ◌++◌, Option, Some, None, refl, sym, ap, ◌∙◌, arith, length, map}
use Rattle.std.specs.Prelude.{if◌then◌else◌, slice_get}
use Rattle.uc_tree.specs.declared.kinds.Base.{Base}
use Rattle.uc_tree.specs.declared.kinds.Base.TheVariants as base
use Rattle.uc_tree.specs.declared.rows.FieldClass.{FieldClass}
use Rattle.uc_tree.specs.declared.rows.FieldLayout.{FieldLayout}
use Rattle.uc_tree.specs.Constants.{constants_of, length_in}
use Rattle.uc_tree.specs.Expressions.{Expr}
use Rattle.uc_tree.specs.Statements.{Declarator}
use Rattle.uc_tree.specs.Programs.{MemberForm, FieldsMember, RoutineMember, ProtoMember, Member, Class, Constant, Program}
use Rattle.uc_tree.specs.Rows.{ClassLayout, row_at, has_itself, element_cells, held_cells, all_held_cells, row_cells, cells_within}
use Rattle.uc_tree.specs.Cells.{classes_of, object_of, held_by, member_held, members_held, row_of, rows_of, leading_cells, seen_in}
use Rattle.uc_tree.specs.Source.{Shape, Binding, Last, shape_cells}
use Rattle.uc_tree.specs.Objects.{class_at, ClassField, declared_fields, form_fields, fields_of, shape_of, kept_shape, arrayed, field_shape, fields_shape, behind_bindings, form_shape, shape_within}
use Rattle.uc_tree.specs.Laws.{LawCells}

base_cells : (b : Base) → shape_cells (shape_of b) ≡ 1
base_cells base.Void = refl
base_cells base.Int = refl
base_cells base.Char = refl
base_cells base.Bool = refl
base_cells base.Condition = refl
base_cells base.Cluster = refl
base_cells base.Processor = refl
base_cells (base.Named name) = refl

bindings_cells : (n : ℕ) (s : Shape) → shape_cells (behind_bindings n s) ≡ n + shape_cells s
bindings_cells zero s = omega arith
bindings_cells (suc n) s = let h = bindings_cells n s in omega (arith, h)

all_held : (cells : ℕ → ℕ) (xs ys : List FieldLayout) → all_held_cells cells (xs ++ ys) ≡ all_held_cells cells xs + all_held_cells cells ys
all_held cells [] ys = omega arith
all_held cells (x ∷ xs) ys = let h = all_held cells xs ys in omega (arith, h)

-- the row of a class, where there is one
abbrev row_by : List Class → List Constant → Option Class → ClassLayout
row_by cs ks None = record { leading = 0; held = [] }
row_by cs ks (Some c) = row_of cs ks c

row_is : (cs : List Class) (ks : List Constant) (xs : List Class) (i : ℕ) → row_at (map (row_of cs ks) xs) i ≡ row_by cs ks (slice_get xs i)
row_is cs ks [] i = refl
row_is cs ks (x ∷ xs) zero = refl
row_is cs ks (x ∷ xs) (suc i) = row_is cs ks xs i

-- where objects of the classes take so many cells
module _ (shapes : ℕ → Shape) (cells : ℕ → ℕ) (same : (j : ℕ) → shape_cells (shapes j) ≡ cells j) (cs : List Class) (named : List ℕ → Option ℤ) where
  plain_cells : (plain : Bool) (j : ℕ) → shape_cells (if plain then shapes j else Binding) ≡ (if plain then cells j else 1)
  plain_cells true j = same j
  plain_cells false j = refl

  kept_cells : (o : Option FieldClass) (b : Base) → shape_cells (kept_shape shapes o b) ≡ element_cells cells o
  kept_cells None b = base_cells b
  kept_cells (Some o) b = plain_cells o.plain o.class

  one_cells : (by_ref : Bool) (l : Option Expr) (b : Base) → shape_cells (if by_ref then Binding else arrayed l (if by_ref then 1 else length_in named l) (kept_shape shapes (object_of cs b) b)) ≡ held_cells cells (record { count = if by_ref then 1 else length_in named l; object = if by_ref then None else object_of cs b })
  one_cells true l b = refl
  one_cells false None b = let h = kept_cells (object_of cs b) b in omega (arith, h)
  one_cells false (Some e) b = ap (λ x. length_in named (Some e) * x) (kept_cells (object_of cs b) b)

  field_cells : (b : Base) (d : Declarator) → shape_cells (field_shape shapes cs named b d) ≡ held_cells cells (held_by cs named b d)
  field_cells b d = one_cells d.by_ref d.len b

  fields_join : (xs ys : List ClassField) → shape_cells (fields_shape shapes cs named (xs ++ ys)) ≡ shape_cells (fields_shape shapes cs named xs) + shape_cells (fields_shape shapes cs named ys)
  fields_join [] ys = omega arith
  fields_join (x ∷ xs) ys = let h = fields_join xs ys in omega (arith, h)

  declared_sum : (b : Base) (ds : List Declarator) → shape_cells (fields_shape shapes cs named (declared_fields b ds)) ≡ all_held_cells cells (map (held_by cs named b) ds)
  declared_sum b [] = refl
  declared_sum b (d ∷ ds) = let h = field_cells b d in let k = declared_sum b ds in omega (arith, h, k)

  form_sum : (f : MemberForm) → shape_cells (fields_shape shapes cs named (form_fields f)) ≡ all_held_cells cells (member_held cs named f)
  form_sum (FieldsMember at b ds) = declared_sum b ds
  form_sum (RoutineMember routine) = refl
  form_sum (ProtoMember sig) = refl

  members_sum : (ms : List Member) → shape_cells (fields_shape shapes cs named (fields_of ms)) ≡ all_held_cells cells (members_held cs named ms)
  members_sum [] = refl
  members_sum (m ∷ ms) =
      let a = fields_join (form_fields m.form) (fields_of ms) in
      let b = form_sum m.form in
      let c = members_sum ms in
      let d = all_held cells (member_held cs named m.form) (members_held cs named ms) in
      omega (arith, a, b, c, d)

module _ (p : Program) where
  row_sum : (shapes : ℕ → Shape) (cells : ℕ → ℕ) → ((j : ℕ) → shape_cells (shapes j) ≡ cells j) → (o : Option Class) → shape_cells (form_shape shapes p o) ≡ row_cells cells (row_by (classes_of p.items) (constants_of p.items) o)
  row_sum shapes cells same None = refl
  row_sum shapes cells same (Some c) =
      let a = bindings_cells (leading_cells c.kind) (fields_shape shapes (classes_of p.items) (seen_in (constants_of p.items) c) (fields_of c.members)) in
      let b = members_sum shapes cells same (classes_of p.items) (seen_in (constants_of p.items) c) c.members in
      omega (arith, a, b)

  by_itself : (b : Bool) (s : Shape) (n : ℕ) → shape_cells s ≡ n → shape_cells (if b then Last else s) ≡ (if b then 0 else n)
  by_itself true s n e = refl
  by_itself false s n e = e

  within_cells : (depth i : ℕ) → shape_cells (shape_within depth p i) ≡ cells_within depth (rows_of p) i
  unfolding shape_within cells_within
  within_cells zero i = refl
  within_cells (suc depth) i =
      by_itself (has_itself (rows_of p) i) (form_shape (shape_within depth p) p (class_at p i)) (row_cells (cells_within depth (rows_of p)) (row_at (rows_of p) i)) (row_sum (shape_within depth p) (cells_within depth (rows_of p)) (within_cells depth) (class_at p i) ∙ ap (row_cells (cells_within depth (rows_of p))) (sym (row_is (classes_of p.items) (constants_of p.items) (classes_of p.items) i)))

pub law_cells : LawCells
law_cells = record { cells = λ p i. within_cells p (length (rows_of p)) i }
