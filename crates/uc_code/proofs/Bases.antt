-- Powers as weights: a lower power of less is less.
use Rattle.std.proofs.Common.{◌≡◌, ℕ, zero, suc, ◌+◌, ◌*◌, ◌^◌, ◌<◌, ◌≤◌, refl, ap, sym, ◌∙◌, arith}
use Rattle.std.proofs.Math.Nat.{mul_assoc, mul-le-mul, mul-lt-mul_of_pos_left}
use Rattle.uc_code.specs.Pace.{power}
use Rattle.uc_code.proofs.Powers.{power_more, power_rises, step}

power_none : power 0 ≡ 1
unfolding power
power_none = refl

pub power_plus : (a b : ℕ) → power (a + b) ≡ power a * power b
power_plus zero b =
    let e : zero + b ≡ b = omega arith in
    let f : 1 * power b ≡ power b = omega arith in
    ap power e ∙ (sym f ∙ ap (λ x. x * power b) (sym power_none))
power_plus (suc a) b =
    let e : suc a + b ≡ suc (a + b) = omega arith in
    ap power e ∙ (step (a + b) ∙ (ap (λ x. 2 ^ 34 * x) (power_plus a b) ∙ (sym (mul_assoc (2 ^ 34) (power a) (power b)) ∙ ap (λ x. x * power b) (sym (step a)))))

times_less : (b x y : ℕ) → x < y → power b * x < power b * y
times_less b x y l = mul-lt-mul_of_pos_left l (power_more b)

pub stays_under : (c b y w : ℕ) → c ≤ b → y ≤ w → power c * y ≤ power b * w
stays_under c b y w h l = mul-le-mul (power_rises c b h) l

-- what goes on
pub falls_on : (c b x y : ℕ) → c ≤ b → y < x → power c * y < power b * x
falls_on c b x y h l =
    let p = stays_under c b y y h (omega arith) in
    let q = times_less b y x l in
    omega arith

-- what is called, or a handler at the same depth, and what waits for it
pub calls_fall : (c b e w x : ℕ) → c ≤ b → e + w < x → power c * e + power b * w < power b * x
calls_fall c b e w x h l =
    let p = stays_under c b e e h (omega arith) in
    let q = times_less b (e + w) x l in
    let r : power b * (e + w) ≡ power b * e + power b * w = omega arith in
    omega arith

-- a handler that is further out
pub raises_fall : (c a b e w x : ℕ) → c + a ≤ b → e < power a → w < x → power c * e + power b * w < power b * x
raises_fall c a b e w x h l m =
    let p = times_less c e (power a) l in
    let q = power_plus c a in
    let r = power_rises (c + a) b h in
    let s : power b * (w + 1) ≤ power b * x = stays_under b b (w + 1) x (omega arith) (omega arith) in
    let t : power b * (w + 1) ≡ power b * w + power b = omega arith in
    omega arith
