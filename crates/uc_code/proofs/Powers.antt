-- Powers.
use Rattle.std.proofs.Common.{◌≡◌, ℕ, zero, suc, ◌+◌, ◌-◌, ◌*◌, ◌^◌, ◌<◌, ◌≤◌, refl, arith, lit≤}
use Rattle.std.proofs.Math.Nat.{mul-le-mul}
use Rattle.uc_code.specs.Pace.{power}

pub power_more : (n : ℕ) → 0 < power n
unfolding power
power_more zero = lit≤ tt
power_more (suc n) = omega (arith, power_more n)

pub step : (n : ℕ) → power (suc n) ≡ 2 ^ 34 * power n
unfolding power
step n = refl

add : (a k : ℕ) → power a ≤ power (a + k)
add a zero = let e : a + 0 ≡ a = omega arith in rw e (omega arith)
add a (suc k) = let e : a + suc k ≡ suc (a + k) = omega arith in rw e (omega (arith, add a k, step (a + k)))

pub power_rises : (a b : ℕ) → a ≤ b → power a ≤ power b
power_rises a b l =
    let e : a + (b - a) ≡ b = omega arith in rw e at (add a (b - a))

pub power_less : (a c : ℕ) → a < c → power a < power c
power_less a zero l = absurd (omega arith)
power_less a (suc c) l = omega (arith, power_rises a c (omega arith), step c, power_more c)

-- two lower powers together are less
pub power_both : (a b c : ℕ) → a < c → b < c → power a + power b < power c
power_both a b zero l k = absurd (omega arith)
power_both a b (suc c) l k = omega (arith, power_rises a c (omega arith), power_rises b c (omega arith), step c, power_more c)

-- a lower power and few of another one are less
pub power_few : (k a b c : ℕ) → k < 2 ^ 32 → a < c → b < c → power a + k * power b < power c
power_few k a b zero h g l = absurd (omega arith)
power_few k a b (suc c) h g l =
    let r = power_rises b c (omega arith) in
    let q = power_rises a c (omega arith) in
    let p : k * power b ≤ 2 ^ 32 * power c = mul-le-mul (omega arith) r in
    omega (arith, step c, power_more c)

-- a lower power and a few of the next lower one are less
pub power_room : (a c : ℕ) → a < c → power a + 2 ^ 32 * power (c - 1) < power c
power_room a zero l = absurd (omega arith)
power_room a (suc c) l =
    let e : suc c - 1 ≡ c = omega arith in
    rw e (omega (arith, power_rises a c (omega arith), step c, power_more c))

pub power_room_less : (a c : ℕ) → a < c → 2 ^ 32 * power a < power c
power_room_less a zero l = absurd (omega arith)
power_room_less a (suc c) l = omega (arith, power_rises a c (omega arith), step c, power_more c)

-- a few of two lower powers are less
pub power_twice : (k a b c : ℕ) → k < 2 ^ 32 → a < c → b < c → 2 ^ 32 * power a + k * power b < power c
power_twice k a b zero h g l = absurd (omega arith)
power_twice k a b (suc c) h g l =
    let r = power_rises b c (omega arith) in
    let q = power_rises a c (omega arith) in
    let p : k * power b ≤ 2 ^ 32 * power c = mul-le-mul (omega arith) r in
    omega (arith, step c, power_more c)

pub power_double : (c : ℕ) → 0 < c → 2 ^ 32 * power (c - 1) + 2 ^ 32 * power (c - 1) < power c
power_double zero l = absurd (omega arith)
power_double (suc c) l = let e : suc c - 1 ≡ c = omega arith in rw e (omega (arith, step c, power_more c))

-- a power and a few of another one are at most a few of a higher one
pub power_sum_few : (k a b c : ℕ) → k < 2 ^ 32 → a ≤ c → b ≤ c → power a + k * power b ≤ 2 ^ 32 * power c
power_sum_few k a b c h g l =
    let r = power_rises b c l in
    let q = power_rises a c g in
    let p : k * power b ≤ (2 ^ 32 - 1) * power c = mul-le-mul (omega arith) r in
    omega arith

-- at most as many of one number
pub times_rise : (j k p : ℕ) → j ≤ k → j * p ≤ k * p
times_rise j k p l = let q : p ≤ p = omega arith in mul-le-mul l q

-- one more of a number
pub times_more : (k p : ℕ) → (k + 1) * p ≡ k * p + p
times_more k p = omega arith

pub times_one_more : (j k p : ℕ) → j ≡ k + 1 → j * p ≡ k * p + p
times_one_more j k p e = rw e (times_more k p)
