-- What tables tell of the names of a program.
use Rattle.std.proofs.Common.{◌≡◌, ℕ, zero, suc, ◌+◌, ◌≤◌, ◌<◌, List, [], ◌∷◌, ◌++◌, Bool, true, false, Option, Some, None, if◌then◌else◌, nat_eq, nat_le, length, get_or, refl, ap, sym, subst, ◌∙◌, arith}
use Rattle.std.proofs.lemmas.Bool.{ne_eqb}
use Rattle.std.proofs.lemmas.Option.{slice_get-get_or}
use Rattle.std.specs.Prelude.{slice_get, unwrap_or, option_and_then}
use Rattle.uc_tree.specs.declared.limits.TheConstants.{LAST_CLASS}
use Rattle.uc_tree.specs.declared.kinds.Base.{Base}
use Rattle.uc_tree.specs.declared.kinds.Base.TheVariants as base
use Rattle.uc_tree.specs.declared.kinds.Kind.{Kind}
use Rattle.uc_tree.specs.declared.kinds.Kind.TheVariants as kind
use Rattle.uc_tree.specs.declared.kinds.Role.{Role}
use Rattle.uc_tree.specs.declared.kinds.Role.TheVariants as role
use Rattle.uc_tree.specs.declared.rows.FieldClass.{FieldClass}
use Rattle.uc_tree.specs.Names.{same_name}
use Rattle.uc_tree.specs.Programs.{Class, Program}
use Rattle.uc_tree.specs.Cells.{classes_of, class_cells, object_of_kind, object_named, object_of, rows_of}
use Rattle.uc_tree.specs.Numbering.{is_event, at_most, class_names, place_from as name_from}
use Rattle.uc_tree.specs.Source.{Binding, Expr, shape_cells}
use Rattle.uc_resolve.specs.Resolve.{AsValue, result_of, scalar, value_meant}
use Rattle.uc_tree.specs.Objects.{Making, APlain, AMutex, making, making_by, class_made, is_numbered, class_at, number_in, number_at, place_from, place_of, shape_of, kept_shape, class_shape, base_shape, written_at, unwritten_number}
use Rattle.uc_lower_expr.specs.declared.meaning.ExprMeaning.{ExprMeaning}
use Rattle.uc_lower_expr.specs.declared.meaning.Scalar.TheVariants as scalars
use Rattle.uc_lower_expr.specs.declared.meaning.Standing.TheVariants as standing
use Rattle.uc_lower_expr.specs.declared.making.Made.{Made}
use Rattle.uc_lower_expr.specs.declared.making.Made.TheVariants as made
use Rattle.uc_lower_expr.specs.Meanings.{Tells, is_mutex_at, making_by as told_by, making_of}
use Rattle.uc_lower_expr.specs.Known.{place_among, routine_or}
use Rattle.uc_lower_expr.specs.Members.{FitClasses, HasClass, object_places, routine_by, routine_for}
use Rattle.uc_lower_expr.specs.Numbered.{AreUnwritten, number_of_class}
use Rattle.uc_lower_expr.proofs.FieldLemmas.{within}
use Rattle.uc_lower_expr.proofs.Finding.{high}

-- the places of classes by their numbers

among_case : (e : Bool) (cs : List Class) (i n : ℕ) → ((m : ℕ) → place_from cs (i + 1) (suc m) ≡ slice_get (object_places cs (i + 1)) m) → (if e then place_from cs (i + 1) (suc n) else (if nat_eq n 0 then Some i else place_from cs (i + 1) n)) ≡ slice_get (if e then object_places cs (i + 1) else i ∷ object_places cs (i + 1)) n
among_case true cs i n h = h n
among_case false cs i zero h = refl
among_case false cs i (suc n) h = ap (λ (b : Bool). if b then Some i else place_from cs (i + 1) (suc n)) (ne_eqb (suc n) 0 (λ e. omega arith)) ∙ h n

among : (cs : List Class) (i n : ℕ) → place_from cs i (suc n) ≡ slice_get (object_places cs i) n
among [] i n = refl
among (c ∷ cs) i n = among_case (is_event c.kind) cs i n (λ m. among cs (i + 1) m)

no_place : (cs : List Class) (i : ℕ) → place_from cs i 0 ≡ None
no_place [] i = refl
no_place (c ∷ cs) i = refl

pub place_is : (p : Program) (number : ℕ) → place_among (object_places (classes_of p.items) 0) number ≡ place_of p number
place_is p zero = sym (no_place (classes_of p.items) 0)
place_is p (suc n) = sym (among (classes_of p.items) 0 n)

push_case : (e : Bool) (i : ℕ) (xs ys : List ℕ) (zs : List ℕ) → xs ≡ ys ++ zs → (if e then xs else i ∷ xs) ≡ (if e then ys else i ∷ ys) ++ zs
push_case true i xs ys zs h = h
push_case false i xs ys zs h = ap (λ ns. i ∷ ns) h

pub places_push : (cs : List Class) (c : Class) (i : ℕ) → object_places (cs ++ c ∷ []) i ≡ object_places cs i ++ object_places (c ∷ []) (i + length cs)
places_push [] c i = let e : i + 0 ≡ i = omega arith in ap (λ k. object_places (c ∷ []) k) (sym e)
places_push (x ∷ xs) c i =
    let e : i + 1 + length xs ≡ i + suc (length xs) = omega arith in
    push_case (is_event x.kind) i (object_places (xs ++ c ∷ []) (i + 1)) (object_places xs (i + 1)) (object_places (c ∷ []) (i + suc (length xs))) (places_push xs c (i + 1) ∙ ap (λ k. object_places xs (i + 1) ++ object_places (c ∷ []) k) e)

-- a class of objects is among the classes

kind_class : (i : ℕ) (k : Kind) (name : List ℕ) (j : ℕ) → class_made (making_by (object_of_kind i k) (base.Named name)) ≡ Some j → j ≡ i
kind_class i kind.Class name j e = cc
kind_class i kind.Coroutine name j e = cc
kind_class i kind.Monitor name j e = cc
kind_class i kind.Cormonitor name j e = cc
kind_class i kind.Task name j e = cc
kind_class i kind.Event name j e = cc

named_case : (i j m : ℕ) (k : Kind) (name : List ℕ) (b : Bool) (o : Option FieldClass) → (class_made (making_by o (base.Named name)) ≡ Some j → j < i + 1 + m) → class_made (making_by (if b then object_of_kind i k else o) (base.Named name)) ≡ Some j → j < i + suc m
named_case i j m k name true o r h = let w = kind_class i k name j h in omega (arith, w)
named_case i j m k name false o r h = let w = r h in omega (arith, w)

named_within : (cs : List Class) (i : ℕ) (name : List ℕ) (j : ℕ) → class_made (making_by (object_named cs i name) (base.Named name)) ≡ Some j → j < i + length cs
named_within [] i name j e = cc
named_within (c ∷ cs) i name j e = named_case i j (length cs) c.kind name (same_name c.name name) (object_named cs (i + 1) name) (named_within cs (i + 1) name j) e

pub made_within : (p : Program) (b : Base) (j : ℕ) → class_made (making p b) ≡ Some j → j < length (classes_of p.items)
made_within p base.Void j e = cc
made_within p base.Int j e = cc
made_within p base.Char j e = cc
made_within p base.Bool j e = cc
made_within p base.Condition j e = cc
made_within p base.Cluster j e = cc
made_within p base.Processor j e = cc
made_within p (base.Named name) j e = let h = named_within (classes_of p.items) 0 name j e in omega (arith, h)

pub class_told : (j : ℕ) (mutex : Bool) → class_made (Some (told_by j mutex)) ≡ Some j
class_told j true = refl
class_told j false = refl

pub made_class : (p : Program) (b : Base) (m : Made) → making p b ≡ Some (making_of p m) → HasClass p m
made_class p b (made.Object j) e = made_within p b j (ap class_made e ∙ class_told j (is_mutex_at p j))
made_class p b made.Cluster e = tt
made_class p b made.Processor e = tt

-- the cells of an element

base_one : (b : Base) → shape_cells (shape_of b) ≡ 1
base_one base.Void = refl
base_one base.Int = refl
base_one base.Char = refl
base_one base.Bool = refl
base_one base.Condition = refl
base_one base.Cluster = refl
base_one base.Processor = refl
base_one (base.Named name) = refl

none_made : (b : Base) (j : ℕ) → class_made (making_by None b) ≡ Some j → ⊥
none_made base.Void j e = cc
none_made base.Int j e = cc
none_made base.Char j e = cc
none_made base.Bool j e = cc
none_made base.Condition j e = cc
none_made base.Cluster j e = cc
none_made base.Processor j e = cc
none_made (base.Named name) j e = cc

-- by whether an object has the cells of its class
abbrev made_object : Bool → ℕ → Option Making
made_object plain i = Some (if plain then APlain i else AMutex i)

module _ (p : Program) where
  abbrev object_cells : Bool → ℕ → ℕ
  object_cells plain i = shape_cells (if plain then class_shape p i else Binding)

  plain_none : (i : ℕ) (plain : Bool) → class_made (made_object plain i) ≡ None → object_cells plain i ≡ 1
  plain_none i true e = cc
  plain_none i false e = refl

  mutex_size : (i : ℕ) (plain : Bool) → is_numbered (made_object plain i) ≡ true → object_cells plain i ≡ 1
  mutex_size i true n = cc
  mutex_size i false n = refl

  none_by : (o : Option FieldClass) (b : Base) → class_made (making_by o b) ≡ None → shape_cells (kept_shape (class_shape p) o b) ≡ 1
  none_by None b e = base_one b
  none_by (Some o) b e = plain_none o.class o.plain e

  number_by : (o : Option FieldClass) (b : Base) → is_numbered (making_by o b) ≡ true → shape_cells (kept_shape (class_shape p) o b) ≡ 1
  number_by None b n = base_one b
  number_by (Some o) b n = mutex_size o.class o.plain n

  pub element_of_none : (b : Base) → class_made (making p b) ≡ None → shape_cells (base_shape p b) ≡ 1
  element_of_none b e = none_by (object_of (classes_of p.items) b) b e

  pub element_of_number : (b : Base) → is_numbered (making p b) ≡ true → shape_cells (base_shape p b) ≡ 1
  element_of_number b n = number_by (object_of (classes_of p.items) b) b n

module _ (p : Program) (fit : FitClasses p) where
  class_size : (j : ℕ) → shape_cells (class_shape p j) ≡ class_cells p j
  class_size j = within p fit (length (rows_of p)) j

  plain_size : (i j : ℕ) (plain : Bool) → is_numbered (made_object plain i) ≡ false → class_made (made_object plain i) ≡ Some j → object_cells p plain i ≡ class_cells p j
  plain_size i j true n e = let is : i ≡ j = cc in class_size i ∙ ap (class_cells p) is
  plain_size i j false n e = cc

  class_by : (o : Option FieldClass) (b : Base) (j : ℕ) → is_numbered (making_by o b) ≡ false → class_made (making_by o b) ≡ Some j → shape_cells (kept_shape (class_shape p) o b) ≡ class_cells p j
  class_by None b j n e = absurd (none_made b j e)
  class_by (Some o) b j n e = plain_size o.class j o.plain n e

  pub element_of_class : (b : Base) (j : ℕ) → is_numbered (making p b) ≡ false → class_made (making p b) ≡ Some j → shape_cells (base_shape p b) ≡ class_cells p j
  element_of_class b j n e = class_by (object_of (classes_of p.items) b) b j n e

-- what a routine hands over

pub result_told : (p : Program) (r : ℕ) (b : Base) (t : ExprMeaning) (e : Expr) → result_of p r ≡ b → ((e : Expr) → Tells p t (value_meant e (scalar b))) → Tells p t (record { expr = e; ty = scalar (result_of p r); standing = AsValue })
result_told p r b t e is h = subst (λ (x : Base). Tells p t (value_meant e (scalar x))) (sym is) (h e)

void_told : (p : Program) (e : Expr) → Tells p (record { scalar = scalars.Number; class = None; numbered = false; event = None; elements = None; standing = standing.Value }) (value_meant e (scalar base.Void))
void_told p e = record { shape = refl; class = refl; numbered = refl; event = refl; len = refl; standing = refl }

pub result_none : (p : Program) (r : ℕ) (t : ExprMeaning) (e : Expr) → result_of p r ≡ base.Void → t ≡ record { scalar = scalars.Number; class = None; numbered = false; event = None; elements = None; standing = standing.Value } → Tells p t (record { expr = e; ty = scalar (result_of p r); standing = AsValue })
result_none p r t e is h = result_told p r base.Void t e is (λ d. subst (λ (x : ExprMeaning). Tells p x (value_meant d (scalar base.Void))) (sym h) (void_told p d))

-- what builds and destroys

routine_case : (p : Program) (i : ℕ) (wanted : Role) (o : Option ℕ) → routine_or o (unwritten_number p i wanted) ≡ routine_by p i wanted o
routine_case p i wanted None = refl
routine_case p i wanted (Some r) = refl

pub routine_is : (p : Program) (i : ℕ) (wanted : Role) (o : Option ℕ) (n : ℕ) → o ≡ written_at p i wanted → n ≡ unwritten_number p i wanted → routine_or o n ≡ routine_for p i wanted
routine_is p i wanted o n e h = ap (λ k. routine_or o k) h ∙ routine_case p i wanted o ∙ ap (routine_by p i wanted) e

module _ (p : Program) (cs ds : List ℕ) (are : AreUnwritten p cs ds) (i : ℕ) (inside : i < length (classes_of p.items)) where
  pub unwritten_built : get_or cs i 0 ≡ unwritten_number p i role.Constructor
  unwritten_built = let l = are.builders in sym (are.builds i (get_or cs i 0) (slice_get-get_or cs i 0 (omega (arith, l, inside))))

  pub unwritten_destroyed : get_or ds i 0 ≡ unwritten_number p i role.Destructor
  unwritten_destroyed = let l = are.destroyers in sym (are.destroys i (get_or ds i 0) (slice_get-get_or ds i 0 (omega (arith, l, inside))))

-- the number of a class is at most the count of classes

pub number_here : (p : Program) (i : ℕ) (c : Class) → class_at p i ≡ Some c → number_at p i ≡ number_of_class p c
number_here p i c e = ap (number_in p) e

names_few : (cs : List Class) → length (class_names cs) ≤ length cs
names_few [] = omega arith
names_few (c ∷ cs) = few_case (is_event c.kind) (names_few cs)
  where
    few_case : (b : Bool) → length (class_names cs) ≤ length cs → length (if b then class_names cs else (c.name ∷ class_names cs)) ≤ suc (length cs)
    few_case true h = omega arith
    few_case false h = omega arith

most_few : (o : Option ℕ) (n : ℕ) → ((k : ℕ) → o ≡ Some k → k < 1 + n) → unwrap_or (option_and_then (at_most LAST_CLASS) o) 0 ≤ n
most_few None n h = omega arith
most_few (Some k) n h = most_case (nat_le k LAST_CLASS)
  where
    most_case : (b : Bool) → unwrap_or (if b then Some k else None) 0 ≤ n
    most_case true = let w = h k refl in omega (arith, w)
    most_case false = omega arith

pub number_few : (p : Program) (c : Class) → number_of_class p c ≤ length (classes_of p.items)
number_few p c =
    let cs = classes_of p.items in
    let few = names_few cs in
    most_few (name_from 1 (class_names cs) c.name) (length cs) (λ k e. let h = high (class_names cs) 1 c.name k e in omega (arith, h, few))
