-- From what calls of the library say to what the lemmas on words take.
use Rattle.std.proofs.Common.{◌≡◌, ℕ, Bool, true, false, List, [], ◌∷◌, length, refl, sym, ◌∙◌, ◌==◌, arith, Bor}
use Rattle.std.specs.Prelude.{nat_eq}
use Rattle.std.specs.Cmp.Lexicographic.{same_text, other_text}
use lib.Pointwise.{pointwise}
use Rattle.std.proofs.lemmas.List.{nil_from_length}
use Rattle.std.proofs.lemmas.Bool.Decides.{nat_tests}
use Rattle.std.specs.Prelude.{Option, Some, None, is_some, option_copied, IsTrue}

pub was_told : {X : Type 0} (o : Option (Bor X)) → is_some o ≡ true → option_copied o ≡ None → ⊥
was_told None h e = absurd (cc)
was_told (Some x) h e = absurd (cc)

pub not_told : {X : Type 0} (o : Option (Bor X)) → is_some o ≡ false → option_copied o ≡ None
not_told None h = refl
not_told (Some x) h = absurd (cc)

pub was_given : {X : Type 0} (o : Option X) → is_some o ≡ true → o ≡ None → ⊥
was_given None h e = absurd (cc)
was_given (Some x) h e = absurd (cc)

pub not_given : {X : Type 0} (o : Option X) → is_some o ≡ false → o ≡ None
not_given None h = refl
not_given (Some x) h = absurd (cc)

pub no_items : {A : Type 0} (xs : List A) → length xs ≡ 0 → xs ≡ []
no_items [] h = refl
no_items (x ∷ xs) h = absurd (omega (arith, h))

pub true_or : (b : Bool) (x y : List ℕ) → ((IsTrue b → x ≡ y) × (x ≡ y → IsTrue b)) → b ≡ false → x ≡ y → ⊥
true_or b x y h f e = absurd (let t : b ≡ true = h.1 e in cc)

pub false_true : (b : Bool) → b ≡ false → IsTrue b → ⊥
false_true b f t = absurd (let e : b ≡ true = t in cc)

pub some_items : {A : Type 0} (xs : List A) (b : Bool) → b ≡ (length xs == 0) → b ≡ false → xs ≡ [] → ⊥
some_items [] b e f h = absurd (let t : true ≡ false = sym e ∙ f in cc)
some_items (x ∷ xs) b e f h = absurd (cc)

pub none_left : {A : Type 0} (xs : List A) (b : Bool) → b ≡ (length xs == 0) → b ≡ true → xs ≡ []
none_left xs b e f = let t : (length xs == 0) ≡ true = sym e ∙ f in nil_from_length xs (grind (arith, nat_tests))

-- what a test of two texts has told

pub says : (b : Bool) (x y : List ℕ) → b ≡ pointwise nat_eq x y → b ≡ true → x ≡ y
says b x y e t = same_text x y (sym t ∙ e)

pub denies : (b : Bool) (x y : List ℕ) → b ≡ pointwise nat_eq x y → b ≡ false → x ≡ y → ⊥
denies b x y e f = other_text x y (sym f ∙ e)
