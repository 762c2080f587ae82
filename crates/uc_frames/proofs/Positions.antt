-- Numbered things in a list: the first with a number, and what a change in its place does.
use Rattle.std.proofs.Common.{◌≡◌, ℕ, zero, suc, ◌<◌, arith, eq-eqb, List, [], ◌∷◌, length, Option, Some, None, Bool, true, false, refl, sym, ap, ◌∙◌, get_or, set}
use Rattle.std.specs.Prelude.{nat_eq, if◌then◌else◌, slice_get, slice_set}
use Rattle.std.proofs.lemmas.Bool.{ne_eqb}
use Rattle.std.proofs.lemmas.Option.{slice_get_read}
use Rattle.uc_machine.specs.Executions.{update, joined}
use Rattle.uc_entry.specs.Keyed.{find}
use Rattle.uc_machine.specs.Switches.{without}
use Rattle.uc_frames.specs.Numbered.{IsAt}

none-some : {A B : Type 0} {x : A} → None ≡ Some x → B
none-some e = absurd (cc)

pub some-same : {A : Type 0} {x y : A} → Some x ≡ Some y → x ≡ y
some-same e = cc

some-is : {X : Type 0} (ps : List (ℕ × X)) (i k : ℕ) (x y : X) → slice_get ps i ≡ Some (k, y) → slice_get ps i ≡ Some (k, x) → Some y ≡ Some x
some-is ps i k x y e f = let s : (k, y) ≡ (k, x) = some-same (sym e ∙ f) in ap (λ r. Some r.1) s

module _ {X : Type 0} (k : ℕ) where
  pub found_at : (ps : List (ℕ × X)) (i : ℕ) (x : X) → slice_get ps i ≡ Some (k, x) → ((j : ℕ) → j < i → (q : ℕ × X) → slice_get ps j ≡ Some q → q.0 ≡ k → ⊥) → IsAt k ps i
  found_at [] i x e none = none-some e
  found_at (q ∷ ps) zero x e none =
      let s : q ≡ (k, x) = some-same e in
      let t : nat_eq q.0 k ≡ true = eq-eqb q.0 k (ap (λ r. r.0) s) in
      record { within = omega arith; item = x; is = e; finds = rw t (ap (λ r. Some r.1) s); updates = λ y. rw t refl; removes = rw t refl }
  found_at (q ∷ ps) (suc i) x e none =
      let t : nat_eq q.0 k ≡ false = ne_eqb q.0 k (none 0 (omega arith) q refl) in
      let r = found_at ps i x e (λ j l p s h. none (suc j) (omega arith) p s h) in
      let w = r.within in
      record { within = omega arith; item = x; is = e; finds = rw t (r.finds ∙ some-is ps i k x r.item r.is e); updates = λ y. rw t (ap (λ l. q ∷ l) (r.updates y)); removes = rw t (ap (λ l. q ∷ l) r.removes) }

  pub not_found : (ps : List (ℕ × X)) → ((j : ℕ) → j < length ps → (q : ℕ × X) → slice_get ps j ≡ Some q → q.0 ≡ k → ⊥) → find k ps ≡ None
  not_found [] none = refl
  not_found (q ∷ ps) none =
      let t : nat_eq q.0 k ≡ false = ne_eqb q.0 k (none 0 (omega arith) q refl) in
      rw t (not_found ps (λ j l p s h. none (suc j) (omega arith) p s h))

module _ {X : Type 0} (ps : List (ℕ × X)) (i k : ℕ) (p : ℕ × X) where
  pub read_key : i < length ps → p ≡ get_or ps i p → p.0 ≡ k → slice_get ps i ≡ Some (k, p.1)
  read_key l e h = slice_get_read ps (length ps) i p refl l e ∙ ap (λ z. Some (z, p.1)) h

  pub read_other : (q : ℕ × X) → i < length ps → p ≡ get_or ps i p → (p.0 ≡ k → ⊥) → slice_get ps i ≡ Some q → q.0 ≡ k → ⊥
  read_other q l e h s z = h (ap (λ r. r.0) (some-same (sym (slice_get_read ps (length ps) i p refl l e) ∙ s)) ∙ z)

module _ {X : Type 0} (k : ℕ) where
  none_by : (b : Bool) (q : ℕ × X) (x : Option X) → (if b then Some q.1 else x) ≡ None → (b ≡ false) × (x ≡ None)
  none_by true q x e = absurd (cc)
  none_by false q x e = (refl, e)

  pub update_none : (ps : List (ℕ × X)) (y : X) → find k ps ≡ None → update k y ps ≡ ps
  update_none [] y e = refl
  update_none (q ∷ ps) y e = let h = none_by (nat_eq q.0 k) q (find k ps) e in rw h.0 (ap (λ l. q ∷ l) (update_none ps y h.1))

  pub without_none : (ps : List (ℕ × X)) → find k ps ≡ None → without k ps ≡ ps
  without_none [] e = refl
  without_none (q ∷ ps) e = let h = none_by (nat_eq q.0 k) q (find k ps) e in rw h.0 (ap (λ l. q ∷ l) (without_none ps h.1))

  module _ (ps : List (ℕ × X)) (i : ℕ) (h : IsAt k ps i) (p : ℕ × X) (e : p ≡ get_or ps i p) where
    item_is : p ≡ (k, h.item)
    item_is = some-same (sym (slice_get_read ps (length ps) i p refl h.within e) ∙ h.is)

    pub find_is : find k ps ≡ Some p.1
    find_is = h.finds ∙ ap (λ q. Some q.1) (sym item_is)

    pub set_is : (y : X) → slice_set ps i (p.0, y) ≡ update k y ps
    set_is y = ap (λ q. slice_set ps i (q.0, y)) item_is ∙ sym (h.updates y)

pub set_same : {X : Type 0} (ps : List X) (i : ℕ) (p : X) → p ≡ get_or ps i p → i < length ps → set ps i p ≡ ps
set_same [] i p e l = refl
set_same (q ∷ ps) zero p e l = ap (λ r. r ∷ ps) e
set_same (q ∷ ps) (suc i) p e l = ap (λ l. q ∷ l) (set_same ps i p e (omega arith))

pub joined_is : {X : Type 0} (k : ℕ) (ps : List (ℕ × Option X)) (i : ℕ) (h : IsAt k ps i) (p : ℕ × Option X) → p ≡ get_or ps i p → joined (find k ps) ≡ p.1
joined_is k ps i h p e = ap joined (find_is k ps i h p e)
