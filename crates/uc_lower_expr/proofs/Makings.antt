-- What a base makes, by its class.
use Rattle.std.proofs.Common.{◌≡◌, ℕ, zero, suc, ◌+◌, ◌<◌, List, [], ◌∷◌, Bool, true, false, Option, Some, None, if◌then◌else◌, refl, ap, sym, ◌∙◌, arith, get_or, length, map}
use Rattle.std.specs.Prelude.{slice_get, option_map}
use Rattle.uc_tree.specs.declared.kinds.Base.{Base}
use Rattle.uc_tree.specs.declared.kinds.Base.TheVariants as base
use Rattle.uc_tree.specs.declared.kinds.Kind.{Kind}
use Rattle.uc_tree.specs.declared.kinds.Kind.TheVariants as kind
use Rattle.uc_tree.specs.declared.rows.FieldClass.{FieldClass}
use Rattle.uc_tree.specs.Names.{same_name}
use Rattle.uc_tree.specs.Programs.{Class, Program}
use Rattle.uc_tree.specs.Cells.{classes_of, object_named, object_of_kind}
use Rattle.uc_tree.specs.Numbering.{is_mutex}
use Rattle.uc_tree.specs.Objects.{Making, making, making_by as made_by, class_made, number_in}
use Rattle.uc_lower_expr.specs.Meanings.{is_mutex_at, is_mutex_in, making_by, making_of, resource_by}
use Rattle.uc_lower_expr.specs.declared.making.Made.TheVariants as made
use Rattle.uc_lower_expr.specs.Numbered.{number_of_class}

-- an object of a class of the list that begins at the place i, where `mutex` tells which are mutex objects
abbrev making_at : (ℕ → Bool) → ℕ → Making
making_at mutex j = making_by j (mutex j)

kind_makes : (mutex : ℕ → Bool) (i : ℕ) (k : Kind) (name : List ℕ) → mutex i ≡ is_mutex k → made_by (object_of_kind i k) (base.Named name) ≡ option_map (making_at mutex) (class_made (made_by (object_of_kind i k) (base.Named name)))
kind_makes mutex i kind.Class name h = ap (λ (b : Bool). Some (making_by i b)) (sym h)
kind_makes mutex i kind.Coroutine name h = ap (λ (b : Bool). Some (making_by i b)) (sym h)
kind_makes mutex i kind.Monitor name h = ap (λ (b : Bool). Some (making_by i b)) (sym h)
kind_makes mutex i kind.Cormonitor name h = ap (λ (b : Bool). Some (making_by i b)) (sym h)
kind_makes mutex i kind.Task name h = ap (λ (b : Bool). Some (making_by i b)) (sym h)
kind_makes mutex i kind.Event name h = refl

named_case : (mutex : ℕ → Bool) (i : ℕ) (k : Kind) (name : List ℕ) (b : Bool) (o : Option FieldClass) → mutex i ≡ is_mutex k → made_by o (base.Named name) ≡ option_map (making_at mutex) (class_made (made_by o (base.Named name)))
    → made_by (if b then object_of_kind i k else o) (base.Named name) ≡ option_map (making_at mutex) (class_made (made_by (if b then object_of_kind i k else o) (base.Named name)))
named_case mutex i k name true o h r = kind_makes mutex i k name h
named_case mutex i k name false o h r = r

named_makes : (mutex : ℕ → Bool) (cs : List Class) (i : ℕ) (name : List ℕ) → ((j : ℕ) (c : Class) → slice_get cs j ≡ Some c → mutex (i + j) ≡ is_mutex c.kind) → made_by (object_named cs i name) (base.Named name) ≡ option_map (making_at mutex) (class_made (made_by (object_named cs i name) (base.Named name)))
named_makes mutex [] i name h = refl
named_makes mutex (c ∷ cs) i name h =
    let here : mutex i ≡ is_mutex c.kind = ap mutex (let e : i ≡ i + 0 = omega arith in e) ∙ h 0 c refl in
    named_case mutex i c.kind name (same_name c.name name) (object_named cs (i + 1) name) here (named_makes mutex cs (i + 1) name (λ j d e. ap mutex (let f : i + 1 + j ≡ i + suc j = omega arith in f) ∙ h (suc j) d e))

of_class : (p : Program) (name : List ℕ) → making p (base.Named name) ≡ option_map (making_at (is_mutex_at p)) (class_made (making p (base.Named name)))
of_class p name = named_makes (is_mutex_at p) (classes_of p.items) 0 name (λ j c e. ap (is_mutex_at p) (let z : 0 + j ≡ j = omega arith in z) ∙ ap is_mutex_in e)

pub makes_object : (p : Program) (b : Base) (j : ℕ) → class_made (making p b) ≡ Some j → making p b ≡ Some (making_of p (made.Object j))
makes_object p base.Void j h = cc
makes_object p base.Int j h = cc
makes_object p base.Char j h = cc
makes_object p base.Bool j h = cc
makes_object p base.Condition j h = cc
makes_object p base.Cluster j h = cc
makes_object p base.Processor j h = cc
makes_object p (base.Named name) j h = of_class p name ∙ ap (option_map (making_at (is_mutex_at p))) h

pub makes_resource : (p : Program) (b : Base) → class_made (making p b) ≡ None → making p b ≡ option_map (making_of p) (resource_by b)
makes_resource p base.Void h = refl
makes_resource p base.Int h = refl
makes_resource p base.Char h = refl
makes_resource p base.Bool h = refl
makes_resource p base.Condition h = refl
makes_resource p base.Cluster h = refl
makes_resource p base.Processor h = refl
makes_resource p (base.Named name) h = of_class p name ∙ ap (option_map (making_at (is_mutex_at p))) h

-- the number of a class
pub numbers_get : (p : Program) (cs : List Class) (i : ℕ) → i < length cs → get_or (map (number_of_class p) cs) i 0 ≡ number_in p (slice_get cs i)
numbers_get p [] i h = absurd (omega arith)
numbers_get p (c ∷ cs) zero h = refl
numbers_get p (c ∷ cs) (suc i) h = numbers_get p cs i (omega arith)
