-- Parentheses round what is too loose.
use Rattle.std.proofs.Common.{◌≡◌, ℕ, ◌+◌, ◌≤◌, Bool, true, false, refl, arith}
use Rattle.std.specs.Prelude.{nat_le, if◌then◌else◌}
use Rattle.std.proofs.lemmas.Bool.{leb-true, le-leb, false≢true}
use Rattle.uc_tree.specs.Expressions.{Expr}
use Rattle.uc_nesting.specs.ExpressionNesting.{enclosed, looseness, nesting_at, expr_nesting}

pub none : (n : ℕ) → 0 ≤ n
none n = omega arith

by_below : (b : Bool) (n : ℕ) → n ≤ (if b then n else n + 1)
by_below true n = omega arith
by_below false n = omega arith

by_above : (b : Bool) (n : ℕ) → (if b then n else n + 1) ≤ n + 1
by_above true n = omega arith
by_above false n = omega arith

by_looser : (b c : Bool) (n : ℕ) → (b ≡ true → c ≡ true) → (if c then n else n + 1) ≤ (if b then n else n + 1)
by_looser true true n h = omega arith
by_looser true false n h = absurd (false≢true (h refl))
by_looser false true n h = omega arith
by_looser false false n h = omega arith

by_same : (b : Bool) (n : ℕ) → b ≡ true → (if b then n else n + 1) ≡ n
by_same true n e = refl
by_same false n e = absurd (false≢true e)

pub enclosed_same : (allowed own n : ℕ) → own ≤ allowed → enclosed allowed own n ≡ n
enclosed_same allowed own n le = by_same (nat_le own allowed) n (le-leb own allowed le)

pub looser : (a b n : ℕ) (e : Expr) → a ≤ b → nesting_at a e ≤ n → nesting_at b e ≤ n
looser a b n e le w =
    let less : nesting_at b e ≤ nesting_at a e = by_looser (nat_le (looseness e) a) (nat_le (looseness e) b) (expr_nesting e) (λ t. le-leb (looseness e) b (omega (arith, leb-true (looseness e) a t, le))) in
    omega (arith, less, w)

-- without parentheses there are no more levels
pub bare : (a n : ℕ) (e : Expr) → nesting_at a e ≤ n → expr_nesting e ≤ n
bare a n e w =
    let more : expr_nesting e ≤ nesting_at a e = by_below (nat_le (looseness e) a) (expr_nesting e) in
    omega (arith, more, w)

-- with them, at most one more
pub in_parentheses : (a n : ℕ) (e : Expr) → expr_nesting e + 1 ≤ n → nesting_at a e ≤ n
in_parentheses a n e w =
    let more : nesting_at a e ≤ expr_nesting e + 1 = by_above (nat_le (looseness e) a) (expr_nesting e) in
    omega (arith, more, w)
