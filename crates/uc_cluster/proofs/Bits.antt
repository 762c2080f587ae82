-- Sets as the bits of a word.
use Rattle.std.proofs.Common.{◌≡◌, ◌≢◌, ℕ, zero, suc, ◌<◌, ◌≤◌, ◌-◌, ◌*◌, ◌/◌, ◌%◌, ◌^◌, ◌==◌, ◌&&◌, ◌||◌, T, eqb→eq, Bool, true, false, not, cond, min, max, refl, sym, ap, ◌∙◌, subst, ◌⊎◌, inl, inr, arith, rules, bit_and, bit_or, w64}
use Rattle.std.specs.Int.{bit_at, bit_not}
use Rattle.std.proofs.lemmas.Bool.{cases_eq, cases_lt, lt-ltb, le-ltb}
use Rattle.std.proofs.lemmas.Nat.Bits.{bit_at-lt, bit_at-zero, bit_at_and, bit_at_or, bit_at_not, bit_at_set_same, bit_at_set_other, bit_at_clear_same, bit_at_clear_other, bit_at_ones, bit_at_ones_above, ones_shr}
use lib.Dec.{ltb}
use Rattle.uc_cluster.specs.ProcessorSet.{has, no_set}

self_test : (m : ℕ) → (m == m) ≡ true
self_test m = search rules

apart_test : (m n : ℕ) → m ≢ n → (m == n) ≡ false
apart_test m n d = by (m == n) (λ t. d (eqb→eq m n (subst T (sym t) tt)))
  where
    by : (b : Bool) → (b ≡ true → ⊥) → b ≡ false
    by true h = absurd (h refl)
    by false h = refl

pub no_has : (p : ℕ) → has no_set p ≡ false
no_has p = ap (λ (n : ℕ). n == 1) (bit_at-zero p)

pub with_bit : (n k : ℕ) → k < 64 → (p : ℕ) → (bit_at (bit_or n (1 * 2 ^ k % 2 ^ 64)) p == 1) ≡ cond (p == k) true (bit_at n p == 1)
with_bit n k within p = elim (cases_eq p k) [
  | inl e ↦ subst (λ (q : ℕ). (bit_at (bit_or n (1 * 2 ^ k % 2 ^ 64)) q == 1) ≡ cond (q == k) true (bit_at n q == 1)) (sym e)
      (ap (λ (b : ℕ). b == 1) (bit_at_set_same w64 n k within) ∙ sym (ap (λ (b : Bool). cond b true (bit_at n k == 1)) (self_test k)))
  | inr d ↦ ap (λ (b : ℕ). b == 1) (bit_at_set_other w64 n k within p d) ∙ sym (ap (λ (b : Bool). cond b true (bit_at n p == 1)) (apart_test p k d))
]

pub without_bit : (n k : ℕ) → k < 64 → (p : ℕ) → p < 64 → (bit_at (bit_and n (bit_not w64 (1 * 2 ^ k % 2 ^ 64))) p == 1) ≡ cond (p == k) false (bit_at n p == 1)
without_bit n k within p small = elim (cases_eq p k) [
  | inl e ↦ subst (λ (q : ℕ). (bit_at (bit_and n (bit_not w64 (1 * 2 ^ k % 2 ^ 64))) q == 1) ≡ cond (q == k) false (bit_at n q == 1)) (sym e)
      (ap (λ (b : ℕ). b == 1) (bit_at_clear_same w64 n k within) ∙ sym (ap (λ (b : Bool). cond b false (bit_at n k == 1)) (self_test k)))
  | inr d ↦ ap (λ (b : ℕ). b == 1) (bit_at_clear_other w64 n k within p small d) ∙ sym (ap (λ (b : Bool). cond b false (bit_at n p == 1)) (apart_test p k d))
]

max_test : (a b : ℕ) → a < 2 → b < 2 → (max a b == 1) ≡ ((a == 1) || (b == 1))
max_test zero zero h k = refl
max_test zero (suc zero) h k = refl
max_test (suc zero) zero h k = refl
max_test (suc zero) (suc zero) h k = refl
max_test (suc (suc a)) b h k = absurd (omega arith)
max_test zero (suc (suc b)) h k = absurd (omega arith)
max_test (suc zero) (suc (suc b)) h k = absurd (omega arith)

min_test : (a b : ℕ) → a < 2 → b < 2 → (min a b == 1) ≡ ((a == 1) && (b == 1))
min_test zero zero h k = refl
min_test zero (suc zero) h k = refl
min_test (suc zero) zero h k = refl
min_test (suc zero) (suc zero) h k = refl
min_test (suc (suc a)) b h k = absurd (omega arith)
min_test zero (suc (suc b)) h k = absurd (omega arith)
min_test (suc zero) (suc (suc b)) h k = absurd (omega arith)

not_test : (b : ℕ) → b < 2 → (1 - b == 1) ≡ not (b == 1)
not_test zero h = refl
not_test (suc zero) h = refl
not_test (suc (suc b)) h = absurd (omega arith)

pub or_bit : (a b p : ℕ) → (bit_at (bit_or a b) p == 1) ≡ ((bit_at a p == 1) || (bit_at b p == 1))
or_bit a b p = ap (λ (n : ℕ). n == 1) (bit_at_or a b p) ∙ max_test (bit_at a p) (bit_at b p) (bit_at-lt a p) (bit_at-lt b p)

pub and_bit : (a b p : ℕ) → (bit_at (bit_and a b) p == 1) ≡ ((bit_at a p == 1) && (bit_at b p == 1))
and_bit a b p = ap (λ (n : ℕ). n == 1) (bit_at_and a b p) ∙ min_test (bit_at a p) (bit_at b p) (bit_at-lt a p) (bit_at-lt b p)

pub minus_bit : (a b p : ℕ) → b < 2 ^ 64 → p < 64 → (bit_at (bit_and a (bit_not w64 b)) p == 1) ≡ ((bit_at a p == 1) && not (bit_at b p == 1))
minus_bit a b p fits small =
    and_bit a (bit_not w64 b) p ∙ ap (λ (x : Bool). (bit_at a p == 1) && x) (ap (λ (n : ℕ). n == 1) (bit_at_not w64 b p fits small) ∙ not_test (bit_at b p) (bit_at-lt b p))

pub first_bit : (n p : ℕ) → n ≤ 64 → (bit_at ((2 ^ 64 - 1) / 2 ^ (64 - n)) p == 1) ≡ ltb p n
first_bit n p le =
    let e : 64 - (64 - n) ≡ n = omega arith in
    ap (λ (x : ℕ). bit_at x p == 1) (ones_shr 64 (64 - n) (omega arith) ∙ ap (λ (x : ℕ). 2 ^ x - 1) e) ∙ by (cases_lt p n)
  where
    by : (p < n) ⊎ (n ≤ p) → (bit_at (2 ^ n - 1) p == 1) ≡ ltb p n
    by (inl lt) = ap (λ (b : ℕ). b == 1) (bit_at_ones n p lt) ∙ sym (lt-ltb p n lt)
    by (inr ge) = ap (λ (b : ℕ). b == 1) (bit_at_ones_above n p ge) ∙ sym (le-ltb p n ge)
