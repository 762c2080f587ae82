-- Lists of numbers in which each stands once.
use Rattle.std.proofs.Common.{◌≡◌, ℕ, suc, ◌==◌, ◌≤◌, ◌&&◌, ◌||◌, Bool, true, false, cond, not, List, [], ◌∷◌, refl, sym, ap, ◌∙◌, arith}
use Rattle.std.specs.Prelude.{nat_eq}
use Rattle.std.proofs.lemmas.Bool.{eqb-true, eq-eqb}
use Rattle.uc_acts.specs.Known.{has}
use Rattle.uc_acts.specs.Stations.{times}
use Rattle.uc_state_laws.specs.Deep.{dropped}
use Rattle.uc_state_laws.proofs.Places.{flipped}
use Rattle.uc_state_laws.proofs.Rows.{none_of}

abbrev pub Once : List ℕ → Type 0
Once ks = (x : ℕ) → times x ks ≤ 1

no_both : {A : Type 0} (b : Bool) → b ≡ true → b ≡ false → A
no_both b t f = absurd (cc)

times_none : (ks : List ℕ) (x : ℕ) → has ks x ≡ false → times x ks ≡ 0
times_none [] x h = refl
times_none (k ∷ ks) x h = by (k == x) refl (times_none ks x) h
  where
    by : (b : Bool) → (k == x) ≡ b → (has ks x ≡ false → times x ks ≡ 0) → (b || has ks x) ≡ false → cond (x == k) (suc (times x ks)) (times x ks) ≡ 0
    by true e ih g = cc
    by false e ih g = ap (λ b. cond b (suc (times x ks)) (times x ks)) (flipped x k ∙ e) ∙ ih g

-- one more in front
pub once_more : (k : ℕ) (ks : List ℕ) → has ks k ≡ false → Once ks → Once (k ∷ ks)
once_more k ks h o x = by (x == k) refl
  where
    by : (b : Bool) → (x == k) ≡ b → cond b (suc (times x ks)) (times x ks) ≤ 1
    by true e =
        let n : times x ks ≡ 0 = times_none ks x (ap (has ks) (eqb-true x k e) ∙ h) in omega (arith, n)
    by false e = o x

pub once_rest : (k : ℕ) (ks : List ℕ) → Once (k ∷ ks) → Once ks
once_rest k ks o x = by (x == k) (o x)
  where
    by : (b : Bool) → cond b (suc (times x ks)) (times x ks) ≤ 1 → times x ks ≤ 1
    by true h = omega (arith, h)
    by false h = h

pub first_once : (k : ℕ) (ks : List ℕ) → Once (k ∷ ks) → has ks k ≡ false
first_once k ks o = none_of ks k (by (k == k) (eq-eqb k k refl) (o k))
  where
    by : (b : Bool) → b ≡ true → cond b (suc (times k ks)) (times k ks) ≤ 1 → times k ks ≡ 0
    by true e h = omega (arith, h)
    by false e h = cc

and_false : (b : Bool) → (b && false) ≡ false
and_false true = refl
and_false false = refl

and_true : (b : Bool) → (b && true) ≡ b
and_true true = refl
and_true false = refl

-- without one of them
pub has_dropped : (o : ℕ) (ks : List ℕ) → Once ks → (q : ℕ) → has (dropped o ks) q ≡ (has ks q && not (q == o))
has_dropped o [] n q = refl
has_dropped o (k ∷ ks) n q = by (nat_eq k o) refl (q == o) refl (k == q) refl (has_dropped o ks (once_rest k ks n) q)
  where
    by : (a : Bool) → nat_eq k o ≡ a → (b : Bool) → (q == o) ≡ b → (c : Bool) → (k == q) ≡ c → has (dropped o ks) q ≡ (has ks q && not (q == o)) → has (cond a ks (k ∷ dropped o ks)) q ≡ ((c || has ks q) && not b)
    by true h true g c f ih =
        ap (has ks) (eqb-true q o g ∙ sym (eqb-true k o h)) ∙ first_once k ks n ∙ sym (and_false (c || has ks q))
    by true h false g true f ih = no_both (q == o) (eq-eqb q o (sym (eqb-true k q f) ∙ eqb-true k o h)) g
    by true h false g false f ih = sym (and_true (has ks q))
    by false h true g true f ih = no_both (k == o) (eq-eqb k o (eqb-true k q f ∙ eqb-true q o g)) h
    by false h b g false f ih = ap (λ x. x || has (dropped o ks) q) f ∙ ih ∙ ap (λ x. has ks q && not x) g
    by false h false g true f ih = ap (λ x. x || has (dropped o ks) q) f

once_dropped : (o : ℕ) (ks : List ℕ) (x : ℕ) → times x (dropped o ks) ≤ times x ks
once_dropped o [] x = omega arith
once_dropped o (k ∷ ks) x = by (nat_eq k o) (x == k) refl (once_dropped o ks x)
  where
    by : (a b : Bool) → (x == k) ≡ b → times x (dropped o ks) ≤ times x ks → times x (cond a ks (k ∷ dropped o ks)) ≤ cond b (suc (times x ks)) (times x ks)
    by true true e h = omega arith
    by true false e h = omega arith
    by false true e h =
        let same : cond (x == k) (suc (times x (dropped o ks))) (times x (dropped o ks)) ≡ suc (times x (dropped o ks)) = ap (λ b. cond b (suc (times x (dropped o ks))) (times x (dropped o ks))) e in
        omega (arith, same, h)
    by false false e h =
        let same : cond (x == k) (suc (times x (dropped o ks))) (times x (dropped o ks)) ≡ times x (dropped o ks) = ap (λ b. cond b (suc (times x (dropped o ks))) (times x (dropped o ks))) e in
        omega (arith, same, h)

pub drops_once : (o : ℕ) (ks : List ℕ) → Once ks → Once (dropped o ks)
drops_once o ks n x = let a = once_dropped o ks x in let b = n x in omega (arith, a, b)
