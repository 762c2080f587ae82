-- All seats of a new lock, in the order of their numbers.
use Rattle.std.proofs.Common.{◌≡◌, ℕ, zero, suc, ◌+◌, ◌<◌, List, [], ◌∷◌, ◌++◌, length, take, drop, Some, false, refl, ap, ◌∙◌, arith}
use Rattle.std.specs.Prelude.{slice_get}
use Rattle.atomic_table.specs.Seated.{TableId}
use Rattle.uc_lock.specs.declared.view.View.{View}
use Rattle.uc_lock.specs.Rule.{opened, kept_part, new_part}
use Rattle.uc_lock.specs.Meanings.{Lock, Sitting, fresh}

module _ {A : Type 0} where
  pub get_before : (xs ys : List A) (i : ℕ) → i < length xs → slice_get (xs ++ ys) i ≡ slice_get xs i
  get_before [] ys i l = absurd (omega arith)
  get_before (x ∷ xs) ys zero l = refl
  get_before (x ∷ xs) ys (suc i) l = get_before xs ys i (omega arith)

  pub get_last : (xs : List A) (y : A) (i : ℕ) → i ≡ length xs → slice_get (xs ++ y ∷ []) i ≡ Some y
  get_last [] y zero e = refl
  get_last [] y (suc i) e = absurd (omega arith)
  get_last (x ∷ xs) y zero e = absurd (omega arith)
  get_last (x ∷ xs) y (suc i) e = get_last xs y i (omega arith)

  drop_last : (xs : List A) (y : A) → drop (length xs) (xs ++ y ∷ []) ≡ y ∷ []
  drop_last [] y = refl
  drop_last (x ∷ xs) y = drop_last xs y

  take_front : (xs : List A) (y : A) → take (length xs) (xs ++ y ∷ []) ≡ xs
  take_front [] y = refl
  take_front (x ∷ xs) y = ap (λ w. x ∷ w) (take_front xs y)

  -- a rotation by one puts the last one first
  pub last_first : (xs ys : List A) (y : A) (n : ℕ) → n ≡ length xs → ys ≡ xs ++ y ∷ [] → drop n ys ++ take n ys ≡ y ∷ xs
  last_first xs ys y n e f =
      ap (λ k. drop k ys ++ take k ys) e
      ∙ (ap (λ w. drop (length xs) w ++ take (length xs) w) f
      ∙ (ap (λ w. w ++ take (length xs) (xs ++ y ∷ [])) (drop_last xs y) ∙ ap (λ w. y ∷ w) (take_front xs y)))

  -- what is first, and what each of the others is
  pub each_from : (f : ℕ → A) (y : A) (xs : List A) (n : ℕ) → y ≡ f 0 → ((i : ℕ) → suc i < n → slice_get xs i ≡ Some (f (suc i))) → (i : ℕ) → i < n → slice_get (y ∷ xs) i ≡ Some (f i)
  each_from f y xs n e h zero l = ap Some e
  each_from f y xs n e h (suc i) l = h i l

module _ {K I : Type 0} where
  -- what a seat with this token and this number is seen as, before it takes the value
  abbrev pub seated : TableId → View K I → ℕ → Sitting K I
  seated t v n = record { lock = t; terms = v.terms; number = n; holds = false; seen = v.seen; own = v.own }

  pub split_seat : {X : Type 0} (l : Lock K I) (t : TableId) (v w : View K I × List X) (n : ℕ) → t ≡ l.id → v ≡ (new_part w.0, []) → w ≡ (record (opened l.terms) { made = n }, []) → seated t v.0 n ≡ fresh l n
  split_seat l t v w n a e f = ap (λ x. seated x v.0 n) a ∙ (ap (λ u. seated l.id u.0 n) e ∙ ap (λ u. seated l.id (new_part u.0) n) f)

  pub first_seat : {X : Type 0} (l : Lock K I) (t : TableId) (w : View K I × List X) (n : ℕ) → t ≡ l.id → w ≡ (record (opened l.terms) { made = n }, []) → seated t w.0 0 ≡ fresh l 0
  first_seat l t w n a f = ap (λ x. seated x w.0 0) a ∙ ap (λ u. seated l.id u.0 0) f

  -- the token that is left when one more is split off
  pub split_on : {X : Type 0} (l : Lock K I) (v w : View K I × List X) (n : ℕ) → v ≡ (kept_part w.0, w.1) → w ≡ (record (opened l.terms) { made = n }, []) → v ≡ (record (opened l.terms) { made = n + 1 }, [])
  split_on {X} l v w n e f = let more : suc n ≡ n + 1 = omega arith in
      e ∙ (ap (λ u. (kept_part u.0, u.1)) f ∙ ap (λ k. (record (opened l.terms) { made = k }, [])) more)
