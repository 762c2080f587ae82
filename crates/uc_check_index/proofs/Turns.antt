-- Pieces that are put behind a list: several at once, and those of one turn more of a loop over another list.
use Rattle.std.proofs.Common.{◌≡◌, ℕ, ◌+◌, ◌<◌, List, [], ◌∷◌, ◌++◌, length, get_or, drop, ap, sym, ◌∙◌, append_assoc}
use Rattle.std.proofs.lemmas.List.{at_drop_more}

module _ {A : Type 0} (was first second : List A) (x : A) (put : first ≡ was ++ x ∷ []) where
  pub both_put : (y : A) → second ≡ first ++ y ∷ [] → second ≡ was ++ x ∷ (y ∷ [])
  both_put y e = e ∙ ap (λ l. l ++ y ∷ []) put ∙ append_assoc was (x ∷ []) (y ∷ [])

  pub all_put : (third : List A) (y : A) (l : List A) → second ≡ first ++ y ∷ [] → third ≡ second ++ l → third ≡ was ++ x ∷ (y ∷ l)
  all_put third y l e f = f ∙ ap (λ k. k ++ l) (both_put y e) ∙ append_assoc was (x ∷ (y ∷ [])) l

  pub lists_put : (third fourth : List A) (k l m : List A) → second ≡ first ++ k → third ≡ second ++ l → fourth ≡ third ++ m → fourth ≡ was ++ x ∷ (k ++ (l ++ m))
  lists_put third fourth k l m e f g =
      g
      ∙ ap (λ n. n ++ m) f
      ∙ append_assoc second l m
      ∙ ap (λ n. n ++ (l ++ m)) e
      ∙ append_assoc first k (l ++ m)
      ∙ ap (λ n. n ++ (k ++ (l ++ m))) put
      ∙ append_assoc was (x ∷ []) (k ++ (l ++ m))

module _ {X A : Type 0} (F : List X → List A) (xs : List X) (i : ℕ) (d x : X) (within : i < length xs) (is : x ≡ get_or xs i d) where
  -- what is left of the list begins with the element of the turn
  left : F (x ∷ drop (i + 1) xs) ≡ F (drop i xs)
  left = ap (λ y. F (y ∷ drop (i + 1) xs)) is ∙ sym (at_drop_more F xs i d within)

  -- what is put is told before each rest
  pub taken : (was now whole : List A) → ((ys : List X) → now ++ F ys ≡ was ++ F (x ∷ ys)) → was ++ F (drop i xs) ≡ whole → now ++ F (drop (i + 1) xs) ≡ whole
  taken was now whole put before = put (drop (i + 1) xs) ∙ ap (λ l. was ++ l) left ∙ before

  -- it is a piece
  pub turned : (piece was now whole : List A) → F (x ∷ drop (i + 1) xs) ≡ piece ++ F (drop (i + 1) xs) → now ≡ was ++ piece → was ++ F (drop i xs) ≡ whole → now ++ F (drop (i + 1) xs) ≡ whole
  turned piece was now whole step put before =
      let rest = F (drop (i + 1) xs) in
      ap (λ l. l ++ rest) put ∙ append_assoc was piece rest ∙ ap (λ l. was ++ l) (sym step ∙ left) ∙ before
