-- What builds and destroys the objects in the fields of a class, and nobody wrote, stands further on than what calls it.
use Rattle.std.proofs.Common.{◌≡◌, ℕ, zero, suc, ◌≤◌, ◌<◌, ℤ, List, [], ◌∷◌, Bool, true, false, true≢false, Option, Some, None, if◌then◌else◌, length, map, refl, ap, sym, subst, ◌∙◌, arith}
use Rattle.std.specs.Prelude.{slice_get}
use Rattle.uc_tree.specs.declared.kinds.Base.{Base}
use Rattle.uc_tree.specs.declared.kinds.Base.TheVariants as base
use Rattle.uc_tree.specs.declared.kinds.Role.{Role}
use Rattle.uc_tree.specs.declared.rows.FieldLayout.{FieldLayout}
use Rattle.uc_tree.specs.declared.rows.FieldClass.{FieldClass}
use Rattle.uc_tree.specs.Programs.{Class, Constant, Program}
use Rattle.uc_tree.specs.Rows.{row_at}
use Rattle.uc_tree.specs.Cells.{classes_of, held_by, object_of, row_of, rows_of, seen_in}
use Rattle.uc_tree.specs.Constants.{constants_of}
use Rattle.uc_tree.specs.Numbering.{routines_of}
use Rattle.uc_tree.specs.Objects.{ClassField, Unwritten, class_at, class_height, fields_of, height_within, APlain, AMutex, class_made, making, making_by, written_at}
use Rattle.uc_layout.specs.Depths.{Holds, First, Later}
use Rattle.uc_layout.proofs.DepthsLemmas.{heights_fall, heights_few}
use Rattle.uc_lower_expr.specs.Members.{FitClasses, routine_by}
use Rattle.uc_lower_expr.proofs.FieldLemmas.{held_is}
use Rattle.uc_implicit.proofs.Order.{stands_before}
use Rattle.uc_lower_class.specs.Bodies.{IsUnwritten}
use Rattle.uc_lower_class.specs.Fields.{FieldsBehind, field_class}

-- written routines stand before all others

behind_written : (p : Program) (number j : ℕ) (wanted : Role) → number < length (routines_of p) → (o : Option ℕ) → (routine_by p j wanted o).written ≡ false → number < (routine_by p j wanted o).number
behind_written p number j wanted h None e = omega arith
behind_written p number j wanted h (Some r) e = absurd (true≢false e)

pub written_behind : (p : Program) (i number : ℕ) → number < length (routines_of p) → FieldsBehind p i number
written_behind p i number h = record { each = λ c place f j there is object wanted e. behind_written p number j wanted h (written_at p j wanted) e }

-- the class of a field is among what its class holds

record Named (p : Program) (f : ClassField) (j : ℕ) : Type 0 where
  object : FieldClass
  is : (if f.declarator.by_ref then None else object_of (classes_of p.items) f.base) ≡ Some object
  class : object.class ≡ j

made_case : (o : FieldClass) (b : Bool) (j : ℕ) → class_made (Some (if b then APlain o.class else AMutex o.class)) ≡ Some j → o.class ≡ j
made_case o true j e = cc
made_case o false j e = cc

no_object : (b : Base) (j : ℕ) → class_made (making_by None b) ≡ Some j → ⊥
no_object base.Void j e = cc
no_object base.Int j e = cc
no_object base.Char j e = cc
no_object base.Bool j e = cc
no_object base.Condition j e = cc
no_object base.Cluster j e = cc
no_object base.Processor j e = cc
no_object (base.Named name) j e = cc

object_case : (p : Program) (f : ClassField) (j : ℕ) (x : Option FieldClass) → x ≡ object_of (classes_of p.items) f.base → f.declarator.by_ref ≡ false → class_made (making_by x f.base) ≡ Some j → Named p f j
object_case p f j None e r h = absurd (no_object f.base j h)
object_case p f j (Some o) e r h = record { object = o; is = ap (λ (b : Bool). if b then None else object_of (classes_of p.items) f.base) r ∙ sym e; class = made_case o o.plain j h }

named_case : (p : Program) (f : ClassField) (j : ℕ) (b : Bool) → f.declarator.by_ref ≡ b → (if b then None else class_made (making p f.base)) ≡ Some j → Named p f j
named_case p f j true r h = cc
named_case p f j false r h = object_case p f j (object_of (classes_of p.items) f.base) refl r h

named : (p : Program) (f : ClassField) (j : ℕ) → field_class p f ≡ Some j → Named p f j
named p f j h = named_case p f j f.declarator.by_ref refl h

holds_at : (cs : List Class) (known : List ℕ → Option ℤ) (fs : List ClassField) (place : ℕ) (f : ClassField) (o : FieldClass) → slice_get fs place ≡ Some f → (if f.declarator.by_ref then None else object_of cs f.base) ≡ Some o → Holds (map (λ (g : ClassField). held_by cs known g.base g.declarator) fs) o
holds_at cs known [] place f o e h = cc
holds_at cs known (x ∷ xs) zero f o e h =
    let is : x ≡ f = cc in
    First (held_by cs known x.base x.declarator) (map (λ (g : ClassField). held_by cs known g.base g.declarator) xs) o (ap (λ (g : ClassField). if g.declarator.by_ref then None else object_of cs g.base) is ∙ h)
holds_at cs known (x ∷ xs) (suc place) f o e h = Later (held_by cs known x.base x.declarator) (map (λ (g : ClassField). held_by cs known g.base g.declarator) xs) o (holds_at cs known xs place f o e h)

rows_long : (cs ds : List Class) (ks : List Constant) → length (map (row_of ds ks) cs) ≡ length cs
rows_long [] ds ks = refl
rows_long (c ∷ cs) ds ks = ap suc (rows_long cs ds ks)

within : (cs : List Class) (i : ℕ) (c : Class) → slice_get cs i ≡ Some c → i < length cs
within [] i c e = cc
within (x ∷ xs) zero c e = omega arith
within (x ∷ xs) (suc i) c e = let r = within xs i c e in omega arith

falls_by : (p : Program) (fit : FitClasses p) (i : ℕ) (o : FieldClass) (n : ℕ) → length (rows_of p) ≡ n → i < length (rows_of p) → Holds (row_at (rows_of p) i).held o → class_height p o.class < class_height p i
falls_by p fit i o zero e h g = absurd (omega arith)
falls_by p fit i o (suc m) e h g =
    subst (λ (n : ℕ). height_within n (rows_of p) o.class < height_within n (rows_of p) i) (sym e) (heights_fall (rows_of p) fit.apart m i o e h g)

module _ (p : Program) (fit : FitClasses p) (u : Unwritten) (number : ℕ) (h : IsUnwritten p u number) where
  long : length (rows_of p) ≡ length (classes_of p.items)
  long = rows_long (classes_of p.items) (classes_of p.items) (constants_of p.items)

  few : class_height p u.class ≤ length (classes_of p.items)
  few = let a = heights_few (length (rows_of p)) (rows_of p) u.class in let b = long in omega arith

  falls : (c : Class) (place : ℕ) (f : ClassField) (j : ℕ) → class_at p u.class ≡ Some c → slice_get (fields_of c.members) place ≡ Some f → field_class p f ≡ Some j → class_height p j < class_height p u.class
  falls c place f j there is object =
      let n = named p f j object in
      let held : Holds (row_at (rows_of p) u.class).held n.object = subst (λ (hs : List FieldLayout). Holds hs n.object) (sym (held_is p fit u.class c there)) (holds_at (classes_of p.items) (seen_in (constants_of p.items) c) (fields_of c.members) place f n.object is n.is) in
      let inside = within (classes_of p.items) u.class c there in
      let same = long in
      subst (λ (k : ℕ). class_height p k < class_height p u.class) n.class (falls_by p fit u.class n.object (length (rows_of p)) refl (omega arith) held)

  behind_case : (c : Class) (place : ℕ) (f : ClassField) (j : ℕ) → class_at p u.class ≡ Some c → slice_get (fields_of c.members) place ≡ Some f → field_class p f ≡ Some j → (wanted : Role) (o : Option ℕ) → (routine_by p j wanted o).written ≡ false → number < (routine_by p j wanted o).number
  behind_case c place f j there is object wanted None e =
      let before = stands_before p u.class j h.class u.role wanted h.there h.object h.builds h.none (falls c place f j there is object) few in
      let own = h.number_is in
      omega (arith, before, own)
  behind_case c place f j there is object wanted (Some r) e = absurd (true≢false e)

  pub unwritten_behind : FieldsBehind p u.class number
  unwritten_behind = record { each = λ c place f j there is object wanted e. behind_case c place f j there is object wanted (written_at p j wanted) e }
