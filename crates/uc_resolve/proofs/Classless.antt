-- A program without classes has no objects: what it stands for asks for none.
use Rattle.std.proofs.Common.{◌≡◌, ℕ, zero, suc, ◌+◌, List, [], ◌∷◌, ◌++◌, Option, Some, None, refl, sym, ap, ◌∙◌, subst, length, append-nil}
use Rattle.uc_tree.specs.declared.kinds.Base.{Base}
use Rattle.uc_tree.specs.declared.kinds.Base.TheVariants as base
use Rattle.uc_tree.specs.declared.rows.FieldClass.{FieldClass}
use Rattle.uc_tree.specs.Programs.{Class, Program}
use Rattle.uc_tree.specs.Cells.{classes_of, object_of}
use Rattle.uc_tree.specs.Numbering.{routines_of}
use Rattle.uc_tree.specs.Objects.{place_from, place_of, plain_in, plain_class, shape_of, kept_shape, class_shape, base_shape, unwritten_of_height, unwritten_up_to, unwritten_of}
use Rattle.uc_tree.specs.Source as source
use Rattle.uc_resolve.specs.Resolve.{Meant, own_meant, item_meant, all_unwritten, routines_meant, source_of}

none_among : (b : Base) → object_of [] b ≡ None
none_among base.Void = refl
none_among base.Int = refl
none_among base.Char = refl
none_among base.Bool = refl
none_among base.Condition = refl
none_among base.Cluster = refl
none_among base.Processor = refl
none_among (base.Named name) = refl

module _ (p : Program) (none : classes_of p.items ≡ []) where
  no_object : (b : Base) → object_of (classes_of p.items) b ≡ None
  no_object b = ap (λ cs. object_of cs b) none ∙ none_among b

  pub no_class : (b : Base) → plain_class p b ≡ None
  no_class b = ap plain_in (no_object b)

  pub no_place : (number : ℕ) → place_of p number ≡ None
  no_place number = ap (λ cs. place_from cs 0 number) none

  pub base_is : (b : Base) → base_shape p b ≡ shape_of b
  base_is b = ap (λ o. kept_shape (class_shape p) o b) (no_object b)

  pub own_is : (class : ℕ) (name : List ℕ) → own_meant p (place_of p class) name ≡ item_meant p name
  own_is class name = ap (λ o. own_meant p o name) (no_place class)

  none_of_height : (h : ℕ) (cs : List Class) → cs ≡ [] → unwritten_of_height p h cs 0 ≡ []
  none_of_height h cs e = ap (λ x. unwritten_of_height p h x 0) e

  none_up_to : (h : ℕ) → unwritten_up_to p h ≡ []
  none_up_to zero = none_of_height zero (classes_of p.items) none
  none_up_to (suc h) = ap (λ x. x ++ unwritten_up_to p h) (none_of_height (suc h) (classes_of p.items) none) ∙ none_up_to h

  pub none_unwritten : unwritten_of p ≡ []
  none_unwritten = none_up_to (length (classes_of p.items))

  pub routines_are : (source_of p).routines ≡ routines_meant p (routines_of p) 0 0 0
  routines_are =
      ap (λ us. routines_meant p (routines_of p) 0 0 0 ++ all_unwritten p us) none_unwritten ∙ append-nil (routines_meant p (routines_of p) 0 0 0)
