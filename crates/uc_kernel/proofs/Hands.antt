-- The members of an object in a hand.
use Rattle.std.proofs.Common.{◌≡◌, ℕ, zero, suc, ◌<◌, ◌≤◌, ◌==◌, arith, eq-eqb, List, [], ◌∷◌, length, Option, Some, None, Bool, true, false, refl, sym, ap, ◌∙◌, get_or, ◌||◌}
use Rattle.std.specs.Prelude.{nat_eq, slice_get, remove}
use Rattle.std.proofs.lemmas.Bool.{ne_eqb, eqb-true}
use Rattle.std.proofs.lemmas.Option.{slice_get_read}
use Rattle.uc_entry.specs.Keyed.{find}
use Rattle.uc_acts.specs.Known.{has}
use Rattle.uc_acts.specs.Stations.{times}
use Rattle.uc_kernel.specs.Numbered.{keys, without, added, gathered}
use Rattle.uc_kernel.specs.AtRest.{AreApart, Stands}

none-some : {A B : Type 0} {x : A} → None ≡ Some x → B
none-some e = absurd (cc)

pub some-same : {A : Type 0} {x y : A} → Some x ≡ Some y → x ≡ y
some-same e = cc

pub no_both : (b : Bool) → b ≡ true → b ≡ false → ⊥
no_both b t f = cc

module _ {M : Type 0} (o : ℕ) where
  pub found_at : (ps : List (ℕ × M)) (i : ℕ) (x : M) → slice_get ps i ≡ Some (o, x) → ((j : ℕ) → j < i → (q : ℕ × M) → slice_get ps j ≡ Some q → q.0 ≡ o → ⊥) → Stands o ps i
  found_at [] i x e none = none-some e
  found_at (q ∷ ps) zero x e none =
      let s : q ≡ (o, x) = some-same e in
      let t : nat_eq q.0 o ≡ true = eq-eqb q.0 o (ap (λ r. r.0) s) in
      record { within = omega arith; item = x; is = e; finds = rw t (ap (λ r. Some r.1) s) }
  found_at (q ∷ ps) (suc i) x e none =
      let t : nat_eq q.0 o ≡ false = ne_eqb q.0 o (none 0 (omega arith) q refl) in
      let r = found_at ps i x e (λ j l p s h. none (suc j) (omega arith) p s h) in
      let w = r.within in
      record { within = omega arith; item = r.item; is = r.is; finds = rw t r.finds }

  pub not_found : (ps : List (ℕ × M)) → ((j : ℕ) → j < length ps → (q : ℕ × M) → slice_get ps j ≡ Some q → q.0 ≡ o → ⊥) → find o ps ≡ None
  not_found [] none = refl
  not_found (q ∷ ps) none =
      let t : nat_eq q.0 o ≡ false = ne_eqb q.0 o (none 0 (omega arith) q refl) in
      rw t (not_found ps (λ j l p s h. none (suc j) (omega arith) p s h))

module _ {M : Type 0} (ps : List (ℕ × M)) (i o : ℕ) (p : ℕ × M) where
  pub read_key : i < length ps → p ≡ get_or ps i p → p.0 ≡ o → slice_get ps i ≡ Some (o, p.1)
  read_key l e h = slice_get_read ps (length ps) i p refl l e ∙ ap (λ z. Some (z, p.1)) h

  pub read_other : (q : ℕ × M) → i < length ps → p ≡ get_or ps i p → (p.0 ≡ o → ⊥) → slice_get ps i ≡ Some q → q.0 ≡ o → ⊥
  read_other q l e h s z = h (ap (λ r. r.0) (some-same (sym (slice_get_read ps (length ps) i p refl l e) ∙ s)) ∙ z)

-- the first of those that stand once
times_first : (o x : ℕ) (xs : List ℕ) → x ≡ o → times o (x ∷ xs) ≡ suc (times o xs)
times_first o x xs e = let h : (o == x) ≡ true = eq-eqb o x (sym e) in rw h refl

times_other : (o x : ℕ) (xs : List ℕ) → (x == o) ≡ false → times o (x ∷ xs) ≡ times o xs
times_other o x xs e = by (o == x) refl
  where
    by : (b : Bool) → (o == x) ≡ b → times o (x ∷ xs) ≡ times o xs
    by false h = rw h refl
    by true h = absurd (no_both (x == o) (eq-eqb x o (sym (eqb-true o x h))) e)

times_tail : (n x : ℕ) (xs : List ℕ) → times n (x ∷ xs) ≤ 1 → times n xs ≤ 1
times_tail n x xs = by (n == x) refl
  where
    by : (b : Bool) → (n == x) ≡ b → times n (x ∷ xs) ≤ 1 → times n xs ≤ 1
    by false h l = let e : times n (x ∷ xs) ≡ times n xs = rw h refl in omega (arith, e, l)
    by true h l = let e : times n (x ∷ xs) ≡ suc (times n xs) = rw h refl in omega (arith, e, l)

pub apart_tail : {M : Type 0} (p : ℕ × M) (ps : List (ℕ × M)) → AreApart (p ∷ ps) → AreApart ps
apart_tail p ps a = λ n. times_tail n p.0 (keys ps) (a n)

-- whoever is not there
pub without_none : {M : Type 0} (o : ℕ) (ps : List (ℕ × M)) → times o (keys ps) ≡ 0 → without o ps ≡ ps
without_none o [] h = refl
without_none o (p ∷ ps) h = by (p.0 == o) refl (without_none o ps)
  where
    by : (b : Bool) → (p.0 == o) ≡ b → (times o (keys ps) ≡ 0 → without o ps ≡ ps) → without o (p ∷ ps) ≡ p ∷ ps
    by true e ih = let f = times_first o p.0 (keys ps) (eqb-true p.0 o e) in absurd (omega (arith, f, h))
    by false e ih = let r = ih (sym (times_other o p.0 (keys ps) e) ∙ h) in rw (e, r) refl

inside_it : {M : Type 0} (o : ℕ) (x : M) (qs : List (ℕ × M)) (j : ℕ) → slice_get qs j ≡ Some (o, x) → 1 ≤ times o (keys qs)
inside_it o x [] j h = none-some h
inside_it o x (q ∷ qs) zero h =
    let f = times_first o q.0 (keys qs) (ap (λ r. r.0) (some-same h)) in omega (arith, f)
inside_it o x (q ∷ qs) (suc j) h = more (o == q.0) refl (inside_it o x qs j h)
  where
    more : (b : Bool) → (o == q.0) ≡ b → 1 ≤ times o (keys qs) → 1 ≤ times o (q.0 ∷ keys qs)
    more true g l =
        let f : times o (q.0 ∷ keys qs) ≡ suc (times o (keys qs)) = rw g refl in omega (arith, f)
    more false g l =
        let f : times o (q.0 ∷ keys qs) ≡ times o (keys qs) = rw g refl in omega (arith, f, l)

pub without_at : {M : Type 0} (o : ℕ) (ps : List (ℕ × M)) (i : ℕ) (x : M) → AreApart ps → slice_get ps i ≡ Some (o, x) → remove ps i ≡ without o ps
without_at o [] i x a e = none-some e
without_at o (p ∷ ps) zero x a e =
    let s : p ≡ (o, x) = some-same e in
    let t : (p.0 == o) ≡ true = eq-eqb p.0 o (ap (λ r. r.0) s) in
    let one = times_first o p.0 (keys ps) (ap (λ r. r.0) s) in
    let most = a o in
    rw t (sym (without_none o ps (omega (arith, one, most))))
without_at {M} o (p ∷ ps) (suc i) x a e = by (p.0 == o) refl (without_at o ps i x (apart_tail p ps a) e)
  where
    by : (b : Bool) → (p.0 == o) ≡ b → remove ps i ≡ without o ps → p ∷ remove ps i ≡ without o (p ∷ ps)
    by false t ih = rw t (ap (λ l. p ∷ l) ih)
    by true t ih =
        let f = times_first o p.0 (keys ps) (eqb-true p.0 o t) in
        let l = inside_it o x ps i e in
        let m = a o in
        absurd (omega (arith, f, l, m))

pub taken : {M : Type 0} (o : ℕ) (ps : List (ℕ × M)) (i : ℕ) → AreApart ps → Stands o ps i → remove ps i ≡ without o ps
taken o ps i a s = without_at o ps i s.item a s.is

pub value_of : {M : Type 0} (o : ℕ) (ps : List (ℕ × M)) (i : ℕ) (s : Stands o ps i) (p : ℕ × M) → p ≡ get_or ps i p → Some p.1 ≡ find o ps
value_of o ps i s p e =
    ap (λ q. Some q.1) (some-same (sym (slice_get_read ps (length ps) i p refl s.within e) ∙ s.is)) ∙ sym s.finds

-- who is found nowhere
pub not_there : {M : Type 0} (o : ℕ) (ps : List (ℕ × M)) → find o ps ≡ None → times o (keys ps) ≡ 0
not_there o [] h = refl
not_there o (p ∷ ps) h = by (p.0 == o) refl (not_there o ps)
  where
    by : (b : Bool) → (p.0 == o) ≡ b → (find o ps ≡ None → times o (keys ps) ≡ 0) → times o (p.0 ∷ keys ps) ≡ 0
    by true e ih = let f : find o (p ∷ ps) ≡ Some p.1 = rw e refl in none-some (sym h ∙ f)
    by false e ih =
        let f : find o (p ∷ ps) ≡ find o ps = rw e refl in times_other o p.0 (keys ps) e ∙ ih (sym f ∙ h)

pub without_found : {M : Type 0} (o : ℕ) (ps : List (ℕ × M)) → find o ps ≡ None → without o ps ≡ ps
without_found o ps h = without_none o ps (not_there o ps h)

or_parts : (a b : Bool) → (a || b) ≡ false → (a ≡ false) × (b ≡ false)
or_parts true b h = cc
or_parts false b h = (refl, h)

-- what is not among the numbers is not found, and the other way round
pub none_found : {M : Type 0} (o : ℕ) (ps : List (ℕ × M)) → has (keys ps) o ≡ false → find o ps ≡ None
none_found o [] h = refl
none_found o (p ∷ ps) h =
    let q = or_parts (p.0 == o) (has (keys ps) o) h in let a = q.0 in rw a (none_found o ps q.1)

pub find_none : {M : Type 0} (o : ℕ) (ps : List (ℕ × M)) → find o ps ≡ None → has (keys ps) o ≡ false
find_none o [] h = refl
find_none o (p ∷ ps) h = by (p.0 == o) refl (find_none o ps)
  where
    by : (b : Bool) → (p.0 == o) ≡ b → (find o ps ≡ None → has (keys ps) o ≡ false) → has (p.0 ∷ keys ps) o ≡ false
    by true e ih = let f : find o (p ∷ ps) ≡ Some p.1 = rw e refl in none-some (sym h ∙ f)
    by false e ih =
        let f : find o (p ∷ ps) ≡ find o ps = rw e refl in
        let r = ih (sym f ∙ h) in rw (e, r) refl

pub find_some : {M : Type 0} (o : ℕ) (m : M) (ps : List (ℕ × M)) → find o ps ≡ Some m → has (keys ps) o ≡ true
find_some o m ps h = by (has (keys ps) o) refl
  where
    by : (b : Bool) → has (keys ps) o ≡ b → has (keys ps) o ≡ true
    by true e = e
    by false e = none-some (sym (none_found o ps e) ∙ h)

pub once_in : (o : ℕ) (xs : List ℕ) → has xs o ≡ true → 1 ≤ times o xs
once_in o [] h = cc
once_in o (x ∷ xs) h = by (x == o) refl (once_in o xs)
  where
    by : (b : Bool) → (x == o) ≡ b → (has xs o ≡ true → 1 ≤ times o xs) → 1 ≤ times o (x ∷ xs)
    by true e ih = let f = times_first o x xs (eqb-true x o e) in omega (arith, f)
    by false e ih =
        let g : has (x ∷ xs) o ≡ has xs o = rw e refl in
        let l = ih (sym g ∙ h) in
        let f = times_other o x xs e in omega (arith, f, l)

-- gathered from what is found in a hand, it is that hand
pub gathered_hand : {M : Type 0} (ps : List (ℕ × M)) (f : ℕ → Option M) → AreApart ps → ((o : ℕ) (m : M) → find o ps ≡ Some m → f o ≡ Some m) → gathered (keys ps) f ≡ ps
gathered_hand [] f a h = refl
gathered_hand {M} (p ∷ ps) f a h =
    let self : (p.0 == p.0) ≡ true = eq-eqb p.0 p.0 refl in
    let first : f p.0 ≡ Some p.1 = h p.0 p.1 (rw self refl) in
    ap (λ x. added p.0 x (gathered (keys ps) f)) first ∙ ap (λ l. (p.0, p.1) ∷ l) (gathered_hand ps f (apart_tail p ps a) (λ o m e. h o m (later o m (p.0 == o) refl e)))
  where
    later : (o : ℕ) (m : M) (b : Bool) → (p.0 == o) ≡ b → find o ps ≡ Some m → find o (p ∷ ps) ≡ Some m
    later o m false t e = rw t e
    later o m true t e = absurd (twice (find_some o m ps e))
      where
        twice : has (keys ps) o ≡ true → ⊥
        twice g =
            let f = times_first o p.0 (keys ps) (eqb-true p.0 o t) in
            let l = once_in o (keys ps) g in
            let most = a o in
            omega (arith, f, l, most)
