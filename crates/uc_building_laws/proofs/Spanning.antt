-- An object that is declared in a program that breaks no rule has all its cells.
use Rattle.std.proofs.Common.{◌≡◌, ℕ, ◌*◌, Bool, true, false, List, [], ◌∷◌, Option, Some, None, refl, ap, ◌∙◌, arith}
use Rattle.std.specs.Prelude.{if◌then◌else◌}
use Rattle.uc_tree.specs.declared.kinds.Base.{Base}
use Rattle.uc_tree.specs.declared.kinds.Base.TheVariants as base
use Rattle.uc_tree.specs.declared.rows.FieldClass.{FieldClass}
use Rattle.uc_tree.specs.Rows.{element_cells}
use Rattle.uc_tree.specs.Cells.{classes_of, class_cells, object_of, declared_cells}
use Rattle.uc_tree.specs.Constants.{constants_of, value_of_name, length_in}
use Rattle.uc_tree.specs.Expressions as expr
use Rattle.uc_tree.specs.Numbering.{Defined, routines_of}
use Rattle.uc_tree.specs.Objects.{APlain, AMutex, making, making_by}
use Rattle.uc_tree.specs.Programs.{Program}
use Rattle.uc_tree.specs.Statements.{Declarator}
use Rattle.uc_resolve.specs.Resolve.{length_of}
use Rattle.uc_rules.specs.Breaks.{breaks_of}
use Rattle.uc_state_laws.specs.Layout.{NoReferences, AreNoReferences}
use Rattle.uc_place_laws.specs.Opened.{Spans}
use Rattle.uc_cell_laws.proofs.Unreferring.{ArePlain, are_plain}

-- it declares no variable as a reference
no_references : (p : Program) (ds : List Defined) → ArePlain p ds → NoReferences ds
no_references p [] h = tt
no_references p (d ∷ ds) h = (h.0.0, no_references p ds h.1)

are_none : (p : Program) → breaks_of p ≡ [] → AreNoReferences p
are_none p h = no_references p (routines_of p) (are_plain p h)

-- the cells of one object of a class

module _ (p : Program) where
  plain_size : (y : Bool) (c i : ℕ) → Some (if y then APlain c else AMutex c) ≡ Some (APlain i) → (if y then class_cells p c else 1) ≡ class_cells p i
  plain_size true c i e = let same : c ≡ i = cc in ap (class_cells p) same
  plain_size false c i e = absurd (cc)

  object_size : (o : Option FieldClass) (b : Base) (i : ℕ) → making_by o b ≡ Some (APlain i) → element_cells (class_cells p) o ≡ class_cells p i
  object_size (Some o) b i e = plain_size o.plain o.class i e
  object_size None base.Void i e = absurd (cc)
  object_size None base.Int i e = absurd (cc)
  object_size None base.Char i e = absurd (cc)
  object_size None base.Bool i e = absurd (cc)
  object_size None base.Condition i e = absurd (cc)
  object_size None base.Cluster i e = absurd (cc)
  object_size None base.Processor i e = absurd (cc)
  object_size None (base.Named name) i e = absurd (cc)

  no_length : (d : Declarator) (l : Option expr.Expr) → length_of p d l ≡ None → l ≡ None
  no_length d None e = refl
  no_length d (Some x) e = absurd (cc)

  declared_size : (b : Base) (d : Declarator) (i : ℕ) → making p b ≡ Some (APlain i) → d.by_ref ≡ false → d.len ≡ None → declared_cells p b d ≡ class_cells p i
  declared_size b d i e r l =
      let cells : ℕ = element_cells (class_cells p) (object_of (classes_of p.items) b) in
      let by_ref : declared_cells p b d ≡ length_in (value_of_name (constants_of p.items)) d.len * cells = ap (λ (z : Bool). (if z then 1 else length_in (value_of_name (constants_of p.items)) d.len) * element_cells (class_cells p) (if z then None else object_of (classes_of p.items) b)) r in
      let single : length_in (value_of_name (constants_of p.items)) d.len * cells ≡ 1 * cells = ap (λ (z : Option expr.Expr). length_in (value_of_name (constants_of p.items)) z * cells) l in
      let object : cells ≡ class_cells p i = object_size (object_of (classes_of p.items) b) b i e in
      omega (arith, by_ref, single, object)

  pub spanned : breaks_of p ≡ [] → (d n : ℕ) (x : Spans p d n) → n ≡ class_cells p x.class
  spanned h d n x = x.cells ∙ declared_size x.base x.declarator x.class x.made (x.whole (are_none p h)) (no_length x.declarator x.declarator.len x.single)
