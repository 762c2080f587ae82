-- The oldest one first, as activations are kept, and the newest first, as contracts see them.
use Rattle.std.proofs.Common.{◌≡◌, ℕ, zero, suc, ◌+◌, ◌-◌, ◌<◌, List, [], ◌∷◌, length, Some, None, true, false, refl, sym, ap, ◌∙◌, arith, reverse}
use Rattle.std.specs.Prelude.{slice_get, nat_eq}
use mathlib.Core.List.{reverse_aux}
use Rattle.std.proofs.lemmas.Bool.{eq-eqb, ne_eqb}
use Rattle.std.proofs.lemmas.List.{length-reverse}
use Rattle.uc_machine.specs.Executions.{at_depth}

older : {X : Type 0} (j : X) (ks : List X) (d : ℕ) → d < length ks → at_depth (j ∷ ks) d ≡ at_depth ks d
older j ks d l = let n : d ≡ length ks → ⊥ = λ q. omega arith in let e : nat_eq d (length ks) ≡ false = ne_eqb d (length ks) n in rw e refl

newest : {X : Type 0} (j : X) (ks : List X) → at_depth (j ∷ ks) (length ks) ≡ Some j
newest j ks = let e : nat_eq (length ks) (length ks) ≡ true = eq-eqb (length ks) (length ks) refl in rw e refl

module _ {X : Type 0} where
  past : (xs : List X) (i : ℕ) → at_depth xs (length xs + i) ≡ None
  past [] i = refl
  past (x ∷ xs) i =
      let n : suc (length xs) + i ≡ length xs → ⊥ = λ e. omega arith in
      let e : nat_eq (suc (length xs) + i) (length xs) ≡ false = ne_eqb _ _ n in
      let k : suc (length xs) + i ≡ length xs + suc i = omega arith in
      rw e (rw k (past xs (suc i)))

  at_old : (xs acc : List X) (d : ℕ) → d < length acc → at_depth (reverse_aux xs acc) d ≡ at_depth acc d
  at_old [] acc d l = refl
  at_old (x ∷ xs) acc d l = at_old xs (x ∷ acc) d (omega arith) ∙ older x acc d l

  at_new : (xs acc : List X) (i : ℕ) → at_depth (reverse_aux xs acc) (length acc + i) ≡ slice_get xs i
  at_new [] acc i = past acc i
  at_new (x ∷ xs) acc zero =
      let k : length acc + 0 ≡ length acc = omega arith in
      rw k (at_old xs (x ∷ acc) (length acc) (omega arith) ∙ newest x acc)
  at_new (x ∷ xs) acc (suc i) =
      let k : length acc + suc i ≡ suc (length acc) + i = omega arith in
      rw k (at_new xs (x ∷ acc) i)

  pub at_reverse : (xs : List X) (d : ℕ) → at_depth (reverse xs) d ≡ slice_get xs d
  at_reverse xs d = let k : 0 + d ≡ d = omega arith in rw k at (at_new xs [] d)

-- the activation of a depth, of the newest one and those that wait
module _ {X : Type 0} (run : X) (xs : List X) (d : ℕ) where
  same_count : length (reverse xs) ≡ length xs
  same_count = length-reverse xs

  pub waiting_at : d < length xs → at_depth (run ∷ reverse xs) d ≡ slice_get xs d
  waiting_at l = older run (reverse xs) d (omega (arith, same_count)) ∙ at_reverse xs d

  pub running_at : d ≡ length xs → at_depth (run ∷ reverse xs) d ≡ Some run
  running_at e = let k : d ≡ length (reverse xs) = e ∙ sym same_count in rw k (newest run (reverse xs))

  pub none_at : length xs < d → at_depth (run ∷ reverse xs) d ≡ None
  none_at l =
      let k : d ≡ length (run ∷ reverse xs) + (d - suc (length xs)) = omega (arith, same_count) in
      let p : at_depth (run ∷ reverse xs) (length (run ∷ reverse xs) + (d - suc (length xs))) ≡ None = past (run ∷ reverse xs) (d - suc (length xs)) in
      ap (at_depth (run ∷ reverse xs)) k ∙ p
