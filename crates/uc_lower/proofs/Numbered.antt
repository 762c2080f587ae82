-- The cells of classes, one after another; and the numbers of what nobody wrote.
use Rattle.std.proofs.Common.{◌≡◌, ℕ, zero, suc, ◌+◌, ◌<◌, List, [], ◌∷◌, ◌++◌, Bool, true, false, Some, if◌then◌else◌, get_or, length, map, drop, refl, ap, sym, ◌∙◌, arith}
use Rattle.std.proofs.lemmas.List.{length-map}
use Rattle.uc_tree.specs.declared.kinds.Role.{Role}
use Rattle.uc_tree.specs.Programs.{Class, Program}
use Rattle.uc_tree.specs.Cells.{class_cells}
use Rattle.uc_tree.specs.Numbering.{is_event, routines_of}
use Rattle.uc_tree.specs.Objects.{Unwritten, place_among, unwritten_number, unwritten_of}
use Rattle.uc_resolve.specs.Resolve.{classes_meant}
use Rattle.uc_tree.specs.Source as source
use Rattle.std.specs.Prelude.{slice_get}
use Rattle.uc_implicit.specs.declared.unwritten.Unwritten.{Unwritten as Nobody}
use Rattle.uc_implicit.specs.Unwritten.{unwritten_as}
use Rattle.uc_numbering.specs.declared.routines.Defined.{Defined as Found}
use Rattle.uc_numbering.specs.Routines.{defined_at}

abbrev pub cells_of : List source.Class → List ℕ
cells_of cs = map (λ (c : source.Class). c.cells) cs

pub first_cells : (p : Program) (i : ℕ) (c : Class) (cs : List Class) → cells_of (classes_meant p i (c ∷ cs)) ≡ cells_of (classes_meant p i (c ∷ [])) ++ cells_of (classes_meant p (i + 1) cs)
first_cells p i c cs = by_kind (is_event c.kind)
  where
    by_kind : (b : Bool) → cells_of (if b then classes_meant p (i + 1) cs else record { cells = class_cells p i } ∷ classes_meant p (i + 1) cs) ≡ cells_of (if b then [] else record { cells = class_cells p i } ∷ []) ++ cells_of (classes_meant p (i + 1) cs)
    by_kind true = refl
    by_kind false = refl

pub dropped : {A B : Type 0} (f : A → B) (xs : List A) (i : ℕ) (x : A) → i < length xs → x ≡ get_or xs i x → drop i (map f xs) ≡ f x ∷ drop (i + 1) (map f xs)
dropped f [] i x h e = absurd (omega arith)
dropped f (y ∷ ys) zero x h e = ap (λ k. f k ∷ map f ys) (sym e)
dropped f (y ∷ ys) (suc i) x h e =
    let z : suc i + 1 ≡ suc (i + 1) = omega arith in
    dropped f ys i x (omega arith) e ∙ ap (λ k. f x ∷ drop k (f y ∷ map f ys)) (sym z)

pub number_is : (p : Program) (defined : List Found) (us : List Unwritten) (count : ℕ) → map defined_at defined ≡ routines_of p → us ≡ unwritten_of p → count ≡ length defined → (i : ℕ) (r : Role) → count + place_among us i r ≡ unwritten_number p i r
number_is p defined us count d u n i r =
    let long : length defined ≡ length (routines_of p) = sym (length-map defined defined_at) ∙ ap length d in
    ap (λ xs. count + place_among xs i r) u ∙ ap (λ k. k + place_among (unwritten_of p) i r) (n ∙ long)

pub mapped_get : (xs : List Nobody) (i : ℕ) (d : Nobody) → i < length xs → slice_get (map unwritten_as xs) i ≡ Some (unwritten_as (get_or xs i d))
mapped_get [] i d h = absurd (omega arith)
mapped_get (x ∷ xs) zero d h = refl
mapped_get (x ∷ xs) (suc i) d h = mapped_get xs i d (omega arith)

pub mapped_is : (xs : List Nobody) (i : ℕ) (u : Nobody) → i < length xs → u ≡ get_or xs i u → slice_get (map unwritten_as xs) i ≡ Some (unwritten_as u)
mapped_is xs i u h e = mapped_get xs i u h ∙ ap (λ k. Some (unwritten_as k)) (sym e)
