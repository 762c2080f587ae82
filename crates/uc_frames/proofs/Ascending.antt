-- Lists in the order of their numbers: a search by halves, and what keeps the order.
use Rattle.std.proofs.Common.{◌≡◌, ℕ, zero, suc, ◌+◌, ◌<◌, ◌≤◌, arith, List, [], ◌∷◌, ◌++◌, length, inl, inr, Some, None, Bool, true, false, refl, sym, ap, subst, ◌∙◌, get_or}
use Rattle.std.specs.Prelude.{nat_eq, slice_get, slice_set, remove, if◌then◌else◌}
use Rattle.std.proofs.lemmas.Bool.{eqb-true, cases_lt}
use Rattle.uc_machine.specs.Executions.{update}
use Rattle.uc_entry.specs.Keyed.{find}
use Rattle.uc_machine.specs.Switches.{without}
use Rattle.uc_frames.specs.Numbered.{IsAt, Ascends, IsBound}
use Rattle.uc_frames.proofs.Positions.{some-same, found_at, not_found, set_is}

none-some : {A B : Type 0} {x : A} → None ≡ Some x → B
none-some e = absurd (cc)

module _ {X : Type 0} where
  get_some : (ps : List (ℕ × X)) (i : ℕ) → i < length ps → (p : ℕ × X) × (slice_get ps i ≡ Some p)
  get_some [] i l = absurd (omega arith)
  get_some (p ∷ ps) zero l = (p, refl)
  get_some (p ∷ ps) (suc i) l = get_some ps i (omega arith)

  least : (low : ℕ) (ps : List (ℕ × X)) (high j : ℕ) (q : ℕ × X) → Ascends low ps high → slice_get ps j ≡ Some q → low ≤ q.0
  least low [] high j q a e = none-some e
  least low (p ∷ ps) high zero q (l, a) e = let s : p.0 ≡ q.0 = ap (λ r. r.0) (some-same e) in omega arith
  least low (p ∷ ps) high (suc j) q (l, a) e = let m = least p.0 ps high j q a e in omega arith

  ordered : (low : ℕ) (ps : List (ℕ × X)) (high i j : ℕ) (p q : ℕ × X) → Ascends low ps high → slice_get ps i ≡ Some p → slice_get ps j ≡ Some q → i ≤ j → p.0 ≤ q.0
  ordered low [] high i j p q a e f l = none-some e
  ordered low (r ∷ rs) high zero zero p q a e f l = let s : p.0 ≡ q.0 = ap (λ t. t.0) (some-same (sym e ∙ f)) in omega arith
  ordered low (r ∷ rs) high zero (suc j) p q (k, a) e f l =
      let s : r.0 ≡ p.0 = ap (λ t. t.0) (some-same e) in
      let m = least r.0 rs high j q a f in
      omega arith
  ordered low (r ∷ rs) high (suc i) zero p q a e f l = absurd (omega arith)
  ordered low (r ∷ rs) high (suc i) (suc j) p q (k, a) e f l = ordered r.0 rs high i j p q a e f (omega arith)

  -- a search by halves

  pub bound_first : (k : ℕ) (ps : List (ℕ × X)) (to : ℕ) → to ≡ length ps → (j : ℕ) (q : ℕ × X) → to ≤ j → slice_get ps j ≡ Some q → k ≤ q.0
  bound_first k [] to e j q l f = none-some f
  bound_first k (p ∷ ps) to e zero q l f = absurd (omega arith)
  bound_first k (p ∷ ps) to e (suc j) q l f = bound_first k ps (length ps) refl j q (omega arith) f

  -- all up to one that is below are below
  pub all_before : (k low : ℕ) (ps : List (ℕ × X)) (high i : ℕ) (p : ℕ × X) → Ascends low ps high → slice_get ps i ≡ Some p → p.0 < k → (j : ℕ) (q : ℕ × X) → j < i + 1 → slice_get ps j ≡ Some q → q.0 < k
  all_before k low ps high i p a e l j q m f = let o = ordered low ps high j i q p a f e (omega arith) in omega arith

  -- none from one on that is not below is
  pub none_behind : (k low : ℕ) (ps : List (ℕ × X)) (high i : ℕ) (p : ℕ × X) → Ascends low ps high → slice_get ps i ≡ Some p → k ≤ p.0 → (j : ℕ) (q : ℕ × X) → i ≤ j → slice_get ps j ≡ Some q → k ≤ q.0
  none_behind k low ps high i p a e l j q m f = let o = ordered low ps high i j p q a e f m in omega arith

  pub bound_found : (k : ℕ) (ps : List (ℕ × X)) (i : ℕ) (x : X) → IsBound k ps i → slice_get ps i ≡ Some (k, x) → IsAt k ps i
  bound_found k ps i x b e = found_at k ps i x e (λ j l q s h. let m = b.before j q l s in omega (arith, h))

  bound_not : (k low : ℕ) (ps : List (ℕ × X)) (high i : ℕ) → Ascends low ps high → IsBound k ps i → ((q : ℕ × X) → slice_get ps i ≡ Some q → q.0 ≡ k → ⊥) → (j : ℕ) → j < length ps → (q : ℕ × X) → slice_get ps j ≡ Some q → q.0 ≡ k → ⊥
  bound_not k low ps high i a b n j l q s h = elim (cases_lt j i) [
    | inl m ↦ let c = b.before j q m s in omega (arith, h)
    | inr m ↦
        let g = get_some ps i (omega arith) in
        let c = b.behind i g.0 (omega arith) g.1 in
        let o = ordered low ps high i j g.0 q a g.1 s m in
        n g.0 g.1 (omega (arith, h))
  ]

  pub bound_none : (k low : ℕ) (ps : List (ℕ × X)) (high i : ℕ) → Ascends low ps high → IsBound k ps i → ((q : ℕ × X) → slice_get ps i ≡ Some q → q.0 ≡ k → ⊥) → find k ps ≡ None
  bound_none k low ps high i a b n = not_found k ps (bound_not k low ps high i a b n)

  pub none_past : (ps : List (ℕ × X)) (i : ℕ) (q : ℕ × X) → length ps ≤ i → slice_get ps i ≡ Some q → ⊥
  none_past [] i q l e = none-some e
  none_past (p ∷ ps) zero q l e = omega arith
  none_past (p ∷ ps) (suc i) q l e = none_past ps i q (omega arith) e

  -- what keeps the order

  wider : (low lower : ℕ) (ps : List (ℕ × X)) (high : ℕ) → lower ≤ low → Ascends low ps high → Ascends lower ps high
  wider low lower [] high l a = omega arith
  wider low lower (p ∷ ps) high l (m, a) = (omega arith, a)

  update_by : (b : Bool) (low k : ℕ) (y : X) (p : ℕ × X) (ps : List (ℕ × X)) (high : ℕ) → nat_eq p.0 k ≡ b → low ≤ p.0 → Ascends p.0 ps high → Ascends p.0 (update k y ps) high → Ascends low (if b then (k, y) ∷ ps else p ∷ update k y ps) high
  update_by true low k y p ps high e l a u = let s : p.0 ≡ k = eqb-true p.0 k e in (subst (λ n. low ≤ n) s l, subst (λ n. Ascends n ps high) s a)
  update_by false low k y p ps high e l a u = (l, u)

  pub ascends_update : (low k : ℕ) (y : X) (ps : List (ℕ × X)) (high : ℕ) → Ascends low ps high → Ascends low (update k y ps) high
  ascends_update low k y [] high a = a
  ascends_update low k y (p ∷ ps) high (l, a) = update_by (nat_eq p.0 k) low k y p ps high refl l a (ascends_update p.0 k y ps high a)

  without_by : (b : Bool) (low k : ℕ) (p : ℕ × X) (ps : List (ℕ × X)) (high : ℕ) → low ≤ p.0 → Ascends p.0 ps high → Ascends p.0 (without k ps) high → Ascends low (if b then ps else p ∷ without k ps) high
  without_by true low k p ps high l a u = wider p.0 low ps high l a
  without_by false low k p ps high l a u = (l, u)

  pub ascends_without : (low k : ℕ) (ps : List (ℕ × X)) (high : ℕ) → Ascends low ps high → Ascends low (without k ps) high
  ascends_without low k [] high a = a
  ascends_without low k (p ∷ ps) high (l, a) = without_by (nat_eq p.0 k) low k p ps high l a (ascends_without p.0 k ps high a)

  pub ascends_more : (low : ℕ) (ps : List (ℕ × X)) (high new : ℕ) (x : X) → Ascends low ps high → high ≤ new → Ascends low (ps ++ (high, x) ∷ []) new
  ascends_more low [] high new x a l = (a, l)
  ascends_more low (p ∷ ps) high new x (m, a) l = (m, ascends_more p.0 ps high new x a l)

  module _ (low k : ℕ) (ps : List (ℕ × X)) (high i : ℕ) (h : IsAt k ps i) (a : Ascends low ps high) where
    pub ascends_set : (p : ℕ × X) → p ≡ get_or ps i p → (y : X) → Ascends low (slice_set ps i (p.0, y)) high
    ascends_set p e y = subst (λ l. Ascends low l high) (sym (set_is k ps i h p e y)) (ascends_update low k y ps high a)

    pub ascends_remove : Ascends low (remove ps i) high
    ascends_remove = subst (λ l. Ascends low l high) h.removes (ascends_without low k ps high a)
