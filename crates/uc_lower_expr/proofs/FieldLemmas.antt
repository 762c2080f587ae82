-- The cells before the fields of a class, as they are noted and as its shape has them.
use Rattle.std.proofs.Common.{◌≡◌, ℕ, zero, suc, ◌+◌, ◌-◌, ◌*◌, ◌≤◌, ◌<◌, ℤ, List, [], ◌∷◌, ◌++◌, Bool, true, false, Option, Some, None, if◌then◌else◌, length, map, get_or, refl, ap, sym, subst, ◌∙◌, arith}
use Rattle.std.specs.Prelude.{slice_get, is_some, not, ◌&&◌}
use Rattle.uc_tree.specs.declared.limits.TheConstants.{CLASS_CELLS}
use Rattle.uc_tree.specs.declared.kinds.Base.{Base}
use Rattle.uc_tree.specs.declared.kinds.Ty.{Ty}
use Rattle.uc_tree.specs.declared.kinds.Base.TheVariants as base
use Rattle.uc_tree.specs.declared.rows.FieldClass.{FieldClass}
use Rattle.uc_tree.specs.declared.rows.FieldLayout.{FieldLayout}
use Rattle.uc_tree.specs.Capped.{capped}
use Rattle.uc_tree.specs.Constants.{constants_of, length_in}
use Rattle.uc_tree.specs.Expressions.{Expr}
use Rattle.uc_tree.specs.Statements.{Declarator}
use Rattle.uc_tree.specs.Programs.{MemberForm, FieldsMember, RoutineMember, ProtoMember, Member, Class, Constant, Program}
use Rattle.uc_tree.specs.Rows.{ClassLayout, row_at, has_itself, element_cells, held_cells, all_held_cells, row_cells, cells_within}
use Rattle.uc_tree.specs.Cells.{classes_of, class_cells, object_of, held_by, member_held, members_held, row_of, rows_of, leading_cells, seen_in}
use Rattle.uc_tree.specs.Source.{Shape, Binding, Last, shape_cells, field_cells}
use Rattle.uc_tree.specs.Objects.{class_at, ClassField, declared_fields, form_fields, fields_of, shape_of, kept_shape, arrayed, field_shape, fields_shape, behind_bindings, form_shape, shape_within, class_shape, making, class_made, is_numbered, event_place}
use Rattle.uc_resolve.specs.Resolve.{Standing, field_by, field_length, field_type, has_number}
use Rattle.uc_layout.specs.Places.{IsPlaces}
use Rattle.uc_layout.specs.Depths.{Holds, First, Later}
use Rattle.uc_layout.proofs.DepthsLemmas.{cells_deep, cells_next}
use Rattle.uc_lower_expr.specs.declared.meaning.Standing.{Standing as Told}
use Rattle.uc_lower_expr.specs.declared.fields.Field.{Field}
use Rattle.uc_lower_expr.specs.declared.fields.FieldTable.{FieldTable}
use Rattle.uc_lower_expr.specs.Meanings.{StandsAs, held_as}
use Rattle.uc_lower_expr.specs.Members.{FitClasses, IsFieldAt, AreFields, conditions_before, held_standing}
use Rattle.uc_lower_expr.specs.FieldTables.{condition_by, is_number, one_scalar, length_by, IsNoted, AreNoted, NoMore, OneMore, AreCounted, Notes}
use Rattle.uc_lower_expr.proofs.Counting.{counted_at, field_few, held_of, no_condition}

-- what the fields of a class hold

module _ (cs : List Class) (named : List ℕ → Option ℤ) where
  declared_held : (b : Base) (ds : List Declarator) → map (held_by cs named b) ds ≡ map (held_of cs named) (declared_fields b ds)
  declared_held b [] = refl
  declared_held b (d ∷ ds) = ap (λ hs. held_by cs named b d ∷ hs) (declared_held b ds)

  form_held : (f : MemberForm) → member_held cs named f ≡ map (held_of cs named) (form_fields f)
  form_held (FieldsMember at b ds) = declared_held b ds
  form_held (RoutineMember routine) = refl
  form_held (ProtoMember sig) = refl

  map_join : (xs ys : List ClassField) → map (held_of cs named) (xs ++ ys) ≡ map (held_of cs named) xs ++ map (held_of cs named) ys
  map_join [] ys = refl
  map_join (x ∷ xs) ys = ap (λ hs. held_of cs named x ∷ hs) (map_join xs ys)

  fields_held : (ms : List Member) → members_held cs named ms ≡ map (held_of cs named) (fields_of ms)
  fields_held [] = refl
  fields_held (m ∷ ms) = ap (λ hs. hs ++ members_held cs named ms) (form_held m.form) ∙ ap (λ hs. map (held_of cs named) (form_fields m.form) ++ hs) (fields_held ms) ∙ sym (map_join (form_fields m.form) (fields_of ms))

  -- the cells of a field, where objects of the classes take so many cells
  module _ (shapes : ℕ → Shape) (cells : ℕ → ℕ) (same : (j : ℕ) → shape_cells (shapes j) ≡ cells j) where
    base_cells : (b : Base) → shape_cells (shape_of b) ≡ 1
    base_cells base.Void = refl
    base_cells base.Int = refl
    base_cells base.Char = refl
    base_cells base.Bool = refl
    base_cells base.Condition = refl
    base_cells base.Cluster = refl
    base_cells base.Processor = refl
    base_cells (base.Named name) = refl

    plain_cells : (plain : Bool) (j : ℕ) → shape_cells (if plain then shapes j else Binding) ≡ (if plain then cells j else 1)
    plain_cells true j = same j
    plain_cells false j = refl

    kept_cells : (o : Option FieldClass) (b : Base) → shape_cells (kept_shape shapes o b) ≡ element_cells cells o
    kept_cells None b = base_cells b
    kept_cells (Some o) b = plain_cells o.plain o.class

    one_cells : (by_ref : Bool) (l : Option Expr) (b : Base) → shape_cells (if by_ref then Binding else arrayed l (if by_ref then 1 else length_in named l) (kept_shape shapes (object_of cs b) b)) ≡ held_cells cells (record { count = if by_ref then 1 else length_in named l; object = if by_ref then None else object_of cs b })
    one_cells true l b = refl
    one_cells false None b = let h = kept_cells (object_of cs b) b in omega (arith, h)
    one_cells false (Some e) b = ap (λ x. length_in named (Some e) * x) (kept_cells (object_of cs b) b)

    shape_held : (f : ClassField) → shape_cells (field_shape shapes cs named f.base f.declarator) ≡ held_cells cells (held_of cs named f)
    shape_held f = one_cells f.declarator.by_ref f.declarator.len f.base

-- the cells of the first so many of these
abbrev first_cells : (ℕ → ℕ) → List FieldLayout → ℕ → ℕ
first_cells cells [] k = 0
first_cells cells (h ∷ hs) zero = 0
first_cells cells (h ∷ hs) (suc k) = held_cells cells h + first_cells cells hs k

first_few : (cells : ℕ → ℕ) (hs : List FieldLayout) (k : ℕ) → first_cells cells hs k ≤ all_held_cells cells hs
first_few cells [] k = omega arith
first_few cells (h ∷ hs) zero = omega arith
first_few cells (h ∷ hs) (suc k) = let r = first_few cells hs k in omega arith

-- the cells before a field in a shape

zero_more : (k : ℕ) → 0 + k ≡ k
zero_more k = omega arith

before_bindings : (n k : ℕ) (s : Shape) → field_cells (behind_bindings n s) (n + k) ≡ n + field_cells s k
before_bindings zero k s = ap (λ n. field_cells s n) (zero_more k) ∙ sym (zero_more (field_cells s k))
before_bindings (suc n) k s = let h = before_bindings n k s in let e : suc n + k ≡ suc (n + k) = omega arith in ap (λ m. field_cells (behind_bindings (suc n) s) m) e ∙ omega (arith, h)

before_fields : (shapes : ℕ → Shape) (cells : ℕ → ℕ) → ((j : ℕ) → shape_cells (shapes j) ≡ cells j) → (cs : List Class) (named : List ℕ → Option ℤ) (fs : List ClassField) (k : ℕ) → field_cells (fields_shape shapes cs named fs) k ≡ first_cells cells (map (held_of cs named) fs) k
before_fields shapes cells same cs named [] k = refl
before_fields shapes cells same cs named (f ∷ fs) zero = refl
before_fields shapes cells same cs named (f ∷ fs) (suc k) =
    let a = shape_held cs named shapes cells same f in
    let b = before_fields shapes cells same cs named fs k in
    omega (arith, a, b)

-- the same by other cells

one_same : (f g : ℕ → ℕ) (n : ℕ) (x : Option FieldClass) → ((o : FieldClass) → x ≡ Some o → f o.class ≡ g o.class) → n * element_cells f x ≡ n * element_cells g x
one_same f g n None w = refl
one_same f g n (Some o) w = ap (λ k. n * k) (elim o.plain as (λ b. (if b then f o.class else 1) ≡ (if b then g o.class else 1)) [
  | true ↦ w o refl
  | false ↦ refl
])

first_same : (f g : ℕ → ℕ) (hs : List FieldLayout) (k : ℕ) → ((o : FieldClass) → Holds hs o → f o.class ≡ g o.class) → first_cells f hs k ≡ first_cells g hs k
first_same f g [] k w = refl
first_same f g (h ∷ hs) zero w = refl
first_same f g (h ∷ hs) (suc k) w =
    let a : held_cells f h ≡ held_cells g h = one_same f g h.count h.object (λ o e. w o (First h hs o e)) in
    let b = first_same f g hs k (λ o x. w o (Later h hs o x)) in
    omega arith

-- the row of a class

map_long : {A B : Type 0} (f : A → B) (xs : List A) → length (map f xs) ≡ length xs
map_long f [] = refl
map_long f (x ∷ xs) = ap suc (map_long f xs)

row_here : (cs xs : List Class) (ks : List Constant) (i : ℕ) (c : Class) → slice_get xs i ≡ Some c → row_at (map (row_of cs ks) xs) i ≡ row_of cs ks c
row_here cs [] ks i c e = cc
row_here cs (x ∷ xs) ks zero c e = let is : x ≡ c = cc in ap (row_of cs ks) is
row_here cs (x ∷ xs) ks (suc i) c e = row_here cs xs ks i c e

inside_here : (xs : List Class) (i : ℕ) (c : Class) → slice_get xs i ≡ Some c → i < length xs
inside_here [] i c e = cc
inside_here (x ∷ xs) zero c e = omega arith
inside_here (x ∷ xs) (suc i) c e = let h = inside_here xs i c e in omega arith

-- a whole shape, any number of classes deep

bindings_all : (n : ℕ) (s : Shape) → shape_cells (behind_bindings n s) ≡ n + shape_cells s
bindings_all zero s = omega arith
bindings_all (suc n) s = let h = bindings_all n s in omega (arith, h)

fields_all : (shapes : ℕ → Shape) (cells : ℕ → ℕ) → ((j : ℕ) → shape_cells (shapes j) ≡ cells j) → (cs : List Class) (named : List ℕ → Option ℤ) (fs : List ClassField) → shape_cells (fields_shape shapes cs named fs) ≡ all_held_cells cells (map (held_of cs named) fs)
fields_all shapes cells same cs named [] = refl
fields_all shapes cells same cs named (f ∷ fs) =
    let a = shape_held cs named shapes cells same f in
    let b = fields_all shapes cells same cs named fs in
    omega (arith, a, b)

row_none : (cs xs : List Class) (ks : List Constant) (i : ℕ) → slice_get xs i ≡ None → row_at (map (row_of cs ks) xs) i ≡ record { leading = 0; held = [] }
row_none cs [] ks i e = refl
row_none cs (x ∷ xs) ks zero e = cc
row_none cs (x ∷ xs) ks (suc i) e = row_none cs xs ks i e

module _ (p : Program) (fit : FitClasses p) where
  form_all : (shapes : ℕ → Shape) (cells : ℕ → ℕ) → ((j : ℕ) → shape_cells (shapes j) ≡ cells j) → (j : ℕ) (o : Option Class) → class_at p j ≡ o → shape_cells (form_shape shapes p o) ≡ row_cells cells (row_at (rows_of p) j)
  form_all shapes cells same j None e = sym (ap (row_cells cells) (row_none (classes_of p.items) (classes_of p.items) (constants_of p.items) j e))
  form_all shapes cells same j (Some c) e =
      let cs = classes_of p.items in
      let named = seen_in (constants_of p.items) c in
      let a = bindings_all (leading_cells c.kind) (fields_shape shapes cs named (fields_of c.members)) in
      let b = fields_all shapes cells same cs named (fields_of c.members) in
      let h : all_held_cells cells (members_held cs named c.members) ≡ all_held_cells cells (map (held_of cs named) (fields_of c.members)) = ap (all_held_cells cells) (fields_held cs named c.members) in
      let r : row_cells cells (row_at (rows_of p) j) ≡ leading_cells c.kind + all_held_cells cells (members_held cs named c.members) = ap (row_cells cells) (row_here cs cs (constants_of p.items) j c e) in
      omega (arith, a, b, h, r)

  unless_circle : (b : Bool) (s : Shape) → b ≡ false → shape_cells (if b then Last else s) ≡ shape_cells s
  unless_circle true s e = cc
  unless_circle false s e = refl

  pub within : (d j : ℕ) → shape_cells (shape_within d p j) ≡ cells_within d (rows_of p) j
  unfolding shape_within cells_within
  within zero j = refl
  within (suc d) j = unless_circle (has_itself (rows_of p) j) (form_shape (shape_within d p) p (class_at p j)) (fit.apart j) ∙ form_all (shape_within d p) (cells_within d (rows_of p)) (within d) j (class_at p j) refl ∙ sym (cells_next (rows_of p) fit.apart d j)

module _ (p : Program) (fit : FitClasses p) (i : ℕ) (c : Class) (there : class_at p i ≡ Some c) where
  rows_long : length (rows_of p) ≡ length (classes_of p.items)
  rows_long = map_long (row_of (classes_of p.items) (constants_of p.items)) (classes_of p.items)

  inside : i < length (rows_of p)
  inside = let l = rows_long in let h = inside_here (classes_of p.items) i c there in omega arith

  row_is : row_at (rows_of p) i ≡ row_of (classes_of p.items) (constants_of p.items) c
  row_is = row_here (classes_of p.items) (classes_of p.items) (constants_of p.items) i c there

  pub held_is : (row_at (rows_of p) i).held ≡ map (held_of (classes_of p.items) (seen_in (constants_of p.items) c)) (fields_of c.members)
  held_is = ap (λ (r : ClassLayout). r.held) row_is ∙ fields_held (classes_of p.items) (seen_in (constants_of p.items) c) c.members

  -- the shape of the class, one class less deep
  form_by : (m : ℕ) (b : Bool) (o : Option Class) → b ≡ false → o ≡ Some c → (if b then Last else form_shape (shape_within m p) p o) ≡ form_shape (shape_within m p) p (Some c)
  form_by m true o e f = cc
  form_by m false o e f = ap (form_shape (shape_within m p) p) f

  shape_is : (m : ℕ) → length (rows_of p) ≡ suc m → class_shape p i ≡ form_shape (shape_within m p) p (Some c)
  unfolding shape_within
  shape_is m e = ap (λ n. shape_within n p i) e ∙ form_by m (has_itself (rows_of p) i) (class_at p i) (fit.apart i) there

  -- the cells before a field
  before_is : (m k : ℕ) → length (rows_of p) ≡ suc m → field_cells (class_shape p i) (leading_cells c.kind + k) ≡ leading_cells c.kind + first_cells (class_cells p) (row_at (rows_of p) i).held k
  before_is m k e =
      let cs = classes_of p.items in
      let named = seen_in (constants_of p.items) c in
      ap (λ s. field_cells s (leading_cells c.kind + k)) (shape_is m e)
      ∙ before_bindings (leading_cells c.kind) k (fields_shape (shape_within m p) cs named (fields_of c.members))
      ∙ ap (λ n. leading_cells c.kind + n) (
      before_fields (shape_within m p) (cells_within m (rows_of p)) (within p fit m) cs named (fields_of c.members) k
      ∙ ap (λ hs. first_cells (cells_within m (rows_of p)) hs k) (sym held_is)
      ∙ first_same (cells_within m (rows_of p)) (class_cells p) (row_at (rows_of p) i).held k (λ o h. cells_deep (rows_of p) fit.apart m i o e inside h ∙ ap (λ n. cells_within n (rows_of p) o.class) (sym e)))

  some_rows : (n : ℕ) → i < n → n ≡ suc (n - 1)
  some_rows n h = omega arith

  pub cells_before : (k : ℕ) → field_cells (class_shape p i) (leading_cells c.kind + k) ≡ leading_cells c.kind + first_cells (class_cells p) (row_at (rows_of p) i).held k
  cells_before k = before_is (length (rows_of p) - 1) k (some_rows (length (rows_of p)) inside)

  -- they are few
  class_all : class_cells p i ≡ leading_cells c.kind + all_held_cells (class_cells p) (row_at (rows_of p) i).held
  class_all =
      let m = length (rows_of p) - 1 in
      let e = some_rows (length (rows_of p)) inside in
      ap (λ n. cells_within n (rows_of p) i) e
      ∙ cells_next (rows_of p) fit.apart m i
      ∙ row_all m e
    where
      leading_is : (row_at (rows_of p) i).leading ≡ leading_cells c.kind
      leading_is = ap (λ (r : ClassLayout). r.leading) row_is

      all_few : (f g : ℕ → ℕ) (hs : List FieldLayout) → ((o : FieldClass) → Holds hs o → f o.class ≡ g o.class) → all_held_cells f hs ≡ all_held_cells g hs
      all_few f g [] w = refl
      all_few f g (h ∷ hs) w =
          let a : held_cells f h ≡ held_cells g h = one_same f g h.count h.object (λ o x. w o (First h hs o x)) in
          let b = all_few f g hs (λ o x. w o (Later h hs o x)) in
          omega arith

      row_all : (m : ℕ) → length (rows_of p) ≡ suc m → row_cells (cells_within m (rows_of p)) (row_at (rows_of p) i) ≡ leading_cells c.kind + all_held_cells (class_cells p) (row_at (rows_of p) i).held
      row_all m e =
          let a = leading_is in
          let b = all_few (cells_within m (rows_of p)) (class_cells p) (row_at (rows_of p) i).held (λ o h. cells_deep (rows_of p) fit.apart m i o e inside h ∙ ap (λ n. cells_within n (rows_of p) o.class) (sym e)) in
          omega (arith, a, b)

  few_before : (k : ℕ) → leading_cells c.kind + first_cells (class_cells p) (row_at (rows_of p) i).held k ≤ CLASS_CELLS
  few_before k =
      let a = class_all in
      let b = fit.small i in
      let d = first_few (class_cells p) (row_at (rows_of p) i).held k in
      omega arith

-- what is noted of fields

-- the cells of so many fields from a place on
abbrev cells_from : (ℕ → ℕ) → List FieldLayout → ℕ → ℕ → ℕ
cells_from cells hs place zero = 0
cells_from cells hs place (suc k) = held_cells cells (get_or hs place one_scalar) + cells_from cells hs (place + 1) k

from_later : (cells : ℕ → ℕ) (h : FieldLayout) (hs : List FieldLayout) (place k : ℕ) → cells_from cells (h ∷ hs) (suc place) k ≡ cells_from cells hs place k
from_later cells h hs place zero = refl
from_later cells h hs place (suc k) = let r = from_later cells h hs (place + 1) k in let e : suc place + 1 ≡ suc (place + 1) = omega arith in ap (λ n. held_cells cells (get_or hs place one_scalar) + cells_from cells (h ∷ hs) n k) e ∙ ap (λ n. held_cells cells (get_or hs place one_scalar) + n) r

from_first : (cells : ℕ → ℕ) (hs : List FieldLayout) (k : ℕ) → k ≤ length hs → cells_from cells hs 0 k ≡ first_cells cells hs k
from_first cells [] zero l = refl
from_first cells [] (suc k) l = absurd (omega arith)
from_first cells (h ∷ hs) zero l = refl
from_first cells (h ∷ hs) (suc k) l =
    let a = from_later cells h hs 0 k in
    let b = from_first cells hs k (omega arith) in
    omega (arith, a, b)

module _ (p : Program) (held : List FieldLayout) where
  noted_at : (place cells last : ℕ) (fs : List ClassField) (vs : List Field) → AreNoted p held place cells fs vs last → ((j : ℕ) → j ≤ length fs → cells + cells_from (class_cells p) held place j ≤ CLASS_CELLS) → (k : ℕ) (f : ClassField) (v : Field) → slice_get fs k ≡ Some f → slice_get vs k ≡ Some v → IsNoted p (cells + cells_from (class_cells p) held place k) (get_or held (place + k) one_scalar) f v
  noted_at place cells last fs vs (NoMore q n) few k f v e g = cc
  noted_at place cells last fs vs (OneMore q n l x y xs ys h more) few zero f v e g =
      let a : x ≡ f = cc in
      let b : y ≡ v = cc in
      let c : n ≡ n + 0 = omega arith in
      let d : q ≡ q + 0 = omega arith in
      subst (λ m. IsNoted p m (get_or held (q + 0) one_scalar) f v) c (subst (λ m. IsNoted p n (get_or held m one_scalar) f v) d (subst (λ (r : ClassField). IsNoted p n (get_or held q one_scalar) r v) a (subst (λ (w : Field). IsNoted p n (get_or held q one_scalar) x w) b h)))
  noted_at place cells last fs vs (OneMore q n l x y xs ys h more) few (suc k) f v e g =
      let one = held_cells (class_cells p) (get_or held q one_scalar) in
      let low = few 1 (omega arith) in
      let same : capped (n + one) ≡ n + one = omega arith in
      let r = noted_at (q + 1) (capped (n + one)) l xs ys more (λ j l. let w = few (suc j) (omega arith) in omega (arith, same, w)) k f v e g in
      let c : capped (n + one) + cells_from (class_cells p) held (q + 1) k ≡ n + (one + cells_from (class_cells p) held (q + 1) k) = omega (arith, same) in
      let d : q + 1 + k ≡ q + suc k = omega arith in
      subst (λ m. IsNoted p (n + (one + cells_from (class_cells p) held (q + 1) k)) (get_or held m one_scalar) f v) d (subst (λ m. IsNoted p m (get_or held (q + 1 + k) one_scalar) f v) c r)

  pub noted_long : (place cells last : ℕ) (fs : List ClassField) (vs : List Field) → AreNoted p held place cells fs vs last → length vs ≡ length fs
  noted_long place cells last fs vs (NoMore q n) = refl
  noted_long place cells last fs vs (OneMore q n l x y xs ys h more) = ap suc (noted_long (q + 1) _ l xs ys more)

get_map : {A : Type 0} (f : A → FieldLayout) (xs : List A) (k : ℕ) (x : A) → slice_get xs k ≡ Some x → get_or (map f xs) k one_scalar ≡ f x
get_map f [] k x e = cc
get_map f (y ∷ ys) zero x e = let is : y ≡ x = cc in ap f is
get_map f (y ∷ ys) (suc k) x e = get_map f ys k x e

-- how a field is held

number_is : (named : List ℕ → Option ℤ) (d : Declarator) (numbered : Bool) (l : Option Expr) → (not (is_some (field_length named d l)) && numbered) ≡ is_number l numbered
number_is named d numbered None = refl
number_is named d numbered (Some e) = refl

held_stands : (b : Bool) → StandsAs (held_as b) (held_standing b)
held_stands true = refl
held_stands false = refl

get_long : {A : Type 0} (xs : List A) (k : ℕ) (x : A) → slice_get xs k ≡ Some x → k < length xs
get_long [] k x e = cc
get_long (y ∷ ys) zero x e = omega arith
get_long (y ∷ ys) (suc k) x e = let r = get_long ys k x e in omega arith

module _ (p : Program) (fit : FitClasses p) (i : ℕ) (c : Class) (there : class_at p i ≡ Some c) where
  length_is : (f : ClassField) (l : Option Expr) → length_by l (held_of (classes_of p.items) (seen_in (constants_of p.items) c) f).count ≡ field_length (seen_in (constants_of p.items) c) f.declarator l
  length_is f None = refl
  length_is f (Some e) = refl

  is_field_at : (k : ℕ) (f : ClassField) (v : Field) → slice_get (fields_of c.members) k ≡ Some f → IsNoted p (leading_cells c.kind + cells_from (class_cells p) (row_at (rows_of p) i).held 0 k) (get_or (row_at (rows_of p) i).held (0 + k) one_scalar) f v → v.condition ≡ condition_by f.base (conditions_before (seen_in (constants_of p.items) c) (fields_of c.members) k) → IsFieldAt p c i (leading_cells c.kind + k) f v
  is_field_at k f v e n counted =
      let hs = (row_at (rows_of p) i).held in
      let named = seen_in (constants_of p.items) c in
      let cs = classes_of p.items in
      let fields = fields_of c.members in
      let long : length hs ≡ length fields = ap length (held_is p fit i c there) ∙ map_long (held_of cs named) fields in
      let below = get_long fields k f e in
      let first = from_first (class_cells p) hs k (omega (arith, long, below)) in
      let before = cells_before p fit i c there k in
      let here : get_or hs k one_scalar ≡ held_of cs named f = ap (λ xs. get_or xs k one_scalar) (held_is p fit i c there) ∙ get_map (held_of cs named) fields k f e in
      let at : 0 + k ≡ k = omega arith in
      let number : has_number p (field_type p c f) ≡ v.number = number_is named f.declarator (is_numbered (making p f.base)) f.declarator.len ∙ ap (is_number f.declarator.len) n.numbered ∙ sym n.number in
      let len : v.told.elements ≡ field_length named f.declarator f.declarator.len = n.len ∙ ap (λ (h : FieldLayout). length_by f.declarator.len h.count) (ap (λ x. get_or hs x one_scalar) at ∙ here) ∙ length_is f f.declarator.len in
      record {
        made = n.made;
        by_number = number;
        found = λ none whose. no_condition p c i whose (record { number = leading_cells c.kind + k; field = f }) f.base (conditions_before named fields k) (sym counted ∙ none) ∙ ap (λ (b : Bool). field_by b f.declarator.by_ref (class_shape p i) (leading_cells c.kind + k) whose (field_type p c f)) number;
        by_ref = n.by_ref;
        cell = before ∙ ap (λ x. leading_cells c.kind + x) (sym first) ∙ sym n.cell;
        tells = λ m t s. record {
          shape = ap (λ (y : Ty). shape_of y.base) t ∙ n.shape;
          class = ap (λ (y : Ty). class_made (making p y.base)) t ∙ n.class;
          numbered = ap (λ (y : Ty). is_numbered (making p y.base)) t ∙ n.numbered;
          event = ap (λ (y : Ty). event_place p y.base) t ∙ n.event;
          len = ap (λ (y : Ty). y.len) t ∙ sym len;
          standing = subst (λ (x : Told). StandsAs x m.standing) (sym n.standing) (subst (λ (x : Standing). StandsAs (held_as v.number) x) (sym s) (held_stands v.number));
        };
      }

  here_is : (k : ℕ) (f : ClassField) → slice_get (fields_of c.members) k ≡ Some f → get_or (row_at (rows_of p) i).held (0 + k) one_scalar ≡ held_of (classes_of p.items) (seen_in (constants_of p.items) c) f
  here_is k f e =
      let z : 0 + k ≡ k = omega arith in
      let hs = (row_at (rows_of p) i).held in
      ap (λ n. get_or hs n one_scalar) z ∙ ap (λ xs. get_or xs k one_scalar) (held_is p fit i c there) ∙ get_map (held_of (classes_of p.items) (seen_in (constants_of p.items) c)) (fields_of c.members) k f e

  -- they are no more than the cells
  few_counted : (fs : List ClassField) (j : ℕ) → conditions_before (seen_in (constants_of p.items) c) fs j ≤ first_cells (class_cells p) (map (held_of (classes_of p.items) (seen_in (constants_of p.items) c)) fs) j
  few_counted [] j = omega arith
  few_counted (f ∷ fs) zero = omega arith
  few_counted (f ∷ fs) (suc j) =
      let a = field_few (classes_of p.items) (seen_in (constants_of p.items) c) (class_cells p) f in
      let b = few_counted fs j in
      omega (arith, a, b)

  few_conditions : (j : ℕ) → 0 + conditions_before (seen_in (constants_of p.items) c) (fields_of c.members) j ≤ CLASS_CELLS
  few_conditions j =
      let a = few_counted (fields_of c.members) j in
      let b : first_cells (class_cells p) (row_at (rows_of p) i).held j ≡ first_cells (class_cells p) (map (held_of (classes_of p.items) (seen_in (constants_of p.items) c)) (fields_of c.members)) j = ap (λ hs. first_cells (class_cells p) hs j) (held_is p fit i c there) in
      let d = few_before p fit i c there j in
      omega (arith, a, b, d)

  plus_none : (n : ℕ) → 0 + n ≡ n
  plus_none n = omega arith

  few_from : (j : ℕ) → j ≤ length (fields_of c.members) → leading_cells c.kind + cells_from (class_cells p) (row_at (rows_of p) i).held 0 j ≤ CLASS_CELLS
  few_from j l =
      let hs = (row_at (rows_of p) i).held in
      let long : length hs ≡ length (fields_of c.members) = ap length (held_is p fit i c there) ∙ map_long (held_of (classes_of p.items) (seen_in (constants_of p.items) c)) (fields_of c.members) in
      let first = from_first (class_cells p) hs j (omega (arith, long, l)) in
      let few = few_before p fit i c there j in
      omega (arith, first, few)

  -- a table in which all fields of the class were noted
  pub are_fields : (old new : FieldTable) → old.fields.items ≡ [] → old.cells ≡ leading_cells c.kind → old.conditions ≡ 0 → ((names : List (List ℕ)) → length names ≡ 0 → IsPlaces names old.names) → Notes p (row_at (rows_of p) i).held (fields_of c.members) old new → AreFields p i c new
  are_fields old new none cells nothing places n =
      let empty : length old.fields.items ≡ 0 = ap length none in
      let items : new.fields.items ≡ n.more = n.fields ∙ ap (λ xs. xs ++ n.more) none in
      let noted : AreNoted p (row_at (rows_of p) i).held 0 (leading_cells c.kind) (fields_of c.members) n.more new.cells =
      subst (λ k. AreNoted p (row_at (rows_of p) i).held 0 k (fields_of c.members) n.more new.cells) cells (subst (λ k. AreNoted p (row_at (rows_of p) i).held k old.cells (fields_of c.members) n.more new.cells) empty n.noted) in
      let counts : AreCounted (row_at (rows_of p) i).held 0 0 (fields_of c.members) n.more new.conditions =
      subst (λ k. AreCounted (row_at (rows_of p) i).held 0 k (fields_of c.members) n.more new.conditions) nothing (subst (λ k. AreCounted (row_at (rows_of p) i).held k old.conditions (fields_of c.members) n.more new.conditions) empty n.counted) in
      let counted : (k : ℕ) (f : ClassField) (v : Field) → slice_get (fields_of c.members) k ≡ Some f → slice_get new.fields.items k ≡ Some v → v.condition ≡ condition_by f.base (conditions_before (seen_in (constants_of p.items) c) (fields_of c.members) k) =
      λ k f v e g. counted_at (classes_of p.items) (seen_in (constants_of p.items) c) (row_at (rows_of p) i).held 0 0 new.conditions (fields_of c.members) n.more counts here_is (λ j l. few_conditions j) k f v e (ap (λ xs. slice_get xs k) (sym items) ∙ g) ∙ ap (condition_by f.base) (plus_none (conditions_before (seen_in (constants_of p.items) c) (fields_of c.members) k)) in
      record {
        named = n.named [] (sym empty) (places [] refl);
        long = ap length items ∙ noted_long p (row_at (rows_of p) i).held 0 (leading_cells c.kind) new.cells (fields_of c.members) n.more noted;
        each = λ k f v e g. is_field_at k f v e (noted_at p (row_at (rows_of p) i).held 0 (leading_cells c.kind) new.cells (fields_of c.members) n.more noted few_from k f v e (ap (λ xs. slice_get xs k) (sym items) ∙ g)) (counted k f v e g);
        counted = counted;
      }
