-- Pieces that are put one after another: what one more makes, and what is left.
use Rattle.std.proofs.Common.{◌≡◌, ℕ, zero, suc, ◌+◌, ◌<◌, List, [], ◌∷◌, ◌++◌, length, take, drop, get_or, refl, sym, ap, ◌∙◌, append_assoc, append-nil, subst, arith}
use Rattle.std.specs.Prelude.{map}
use Rattle.std.specs.List.{concat}
use Rattle.std.proofs.lemmas.List.{take_more, map-append}
use Rattle.uc_outside.specs.Taking.{SinkState, Took, TookPrefix, FailedAt}
use Rattle.uc_outside.proofs.Taken.{took-more, took-failed, took-prefix, failed-longer, prefix-longer}

concat-append : (xs ys : List (List ℕ)) → concat (xs ++ ys) ≡ concat xs ++ concat ys
concat-append [] ys = refl
concat-append (x ∷ xs) ys = ap (λ l. x ++ l) (concat-append xs ys) ∙ sym (append_assoc x (concat xs) (concat ys))

module _ {A : Type 0} (f : A → List ℕ) where
  whole : List A → List ℕ
  whole xs = concat (map f xs)

  part : (xs : List A) (i : ℕ) (d : A) → i < length xs → concat (map f xs) ≡ (concat (map f (take i xs)) ++ f (get_or xs i d)) ++ concat (map f (drop (suc i) xs))
  part [] i d h = absurd (omega (arith, h))
  part (x ∷ xs) zero d h = refl
  part (x ∷ xs) (suc i) d h =
      ap (λ l. f x ++ l) (part xs i d (omega (arith, h))) ∙ sym (append_assoc (f x) (concat (map f (take i xs)) ++ f (get_or xs i d)) (concat (map f (drop (suc i) xs)))) ∙ ap (λ l. l ++ concat (map f (drop (suc i) xs))) (sym (append_assoc (f x) (concat (map f (take i xs))) (f (get_or xs i d))))

  more : (xs : List A) (i : ℕ) (d : A) → i < length xs → concat (map f (take (i + 1) xs)) ≡ concat (map f (take i xs)) ++ f (get_or xs i d)
  more xs i d h =
      ap (λ l. concat (map f l)) (take_more xs i d h) ∙ ap concat (map-append f (take i xs) (get_or xs i d ∷ [])) ∙ concat-append (map f (take i xs)) (f (get_or xs i d) ∷ []) ∙ ap (λ l. concat (map f (take i xs)) ++ l) (append-nil (f (get_or xs i d)))

  module _ {a b c : SinkState} (xs : List A) (i : ℕ) (d : A) (h : i < length xs) where
    pub one_more : Took a b (concat (map f (take i xs))) → Took b c (f (get_or xs i d)) → Took a c (concat (map f (take (i + 1) xs)))
    one_more t u = subst (Took a c) (sym (more xs i d h)) (took-more t u)

    pub fails : Took a b (concat (map f (take i xs))) → FailedAt b c (f (get_or xs i d)) → FailedAt a c (concat (map f xs))
    fails t u = subst (FailedAt a c) (sym (part xs i d h)) (failed-longer (concat (map f (drop (suc i) xs))) (took-failed t u))

    pub breaks_off : Took a b (concat (map f (take i xs))) → TookPrefix b c (f (get_or xs i d)) → TookPrefix a c (concat (map f xs))
    breaks_off t u = subst (TookPrefix a c) (sym (part xs i d h)) (prefix-longer (concat (map f (drop (suc i) xs))) (took-prefix t u))
