-- What a look answers is among the entries.
use Rattle.std.proofs.Common.{◌≡◌, ℕ, ◌==◌, ◌||◌, List, [], ◌∷◌, Bool, true, false, cond, Option, Some, refl, sym, ap, subst}
use Rattle.std.specs.Prelude.{option_map}
use Rattle.std.specs.List.{find, list_any}
use Rattle.uc_links.specs.Lists.{IsEntry, first_of, first_with}
use Rattle.uc_links.proofs.Entered.{same_test}

some_same : {X : Type 0} (x y : X) → (let a : Option X = Some x in a ≡ Some y) → x ≡ y
some_same x y e = cc

true_or : (b c : Bool) → c ≡ true → (b || c) ≡ true
true_or true c e = refl
true_or false c e = e

is_first : (x : ℕ × ℕ) (xs : List (ℕ × ℕ)) → IsEntry x.0 (x ∷ xs)
is_first x xs = ap (λ (b : Bool). b || list_any (λ e. e.0 == x.0) xs) (same_test x.0 x.0 refl)

pub first_is_entry : (es : List (ℕ × ℕ)) (e : ℕ × ℕ) → Some e ≡ first_of es → IsEntry e.0 es
first_is_entry [] e h = absurd cc
first_is_entry (x ∷ xs) e h = subst (λ (y : ℕ × ℕ). IsEntry y.0 (x ∷ xs)) (sym (some_same e x h)) (is_first x xs)

by_case : (b : Bool) (x : ℕ × ℕ) (r : Option (ℕ × ℕ)) (id : ℕ) (P : Type 0) → (id ≡ x.0 → P) → (Some id ≡ option_map (λ e. e.0) r → P) → Some id ≡ option_map (λ e. e.0) (cond b (Some x) r) → P
by_case true x r id P f g h = f (some_same id x.0 h)
by_case false x r id P f g h = g h

pub first_with_is_entry : (m : ℕ) (es : List (ℕ × ℕ)) (id : ℕ) → Some id ≡ first_with m es → IsEntry id es
first_with_is_entry m [] id h = absurd cc
first_with_is_entry m (x ∷ xs) id h =
    by_case (x.1 == m) x (find (λ e. e.1 == m) xs) id (IsEntry id (x ∷ xs)) (λ e. subst (λ (i : ℕ). IsEntry i (x ∷ xs)) (sym e) (is_first x xs)) (λ t. true_or (x.0 == id) (list_any (λ e. e.0 == id) xs) (first_with_is_entry m xs id t)) h
