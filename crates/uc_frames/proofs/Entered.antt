-- Rows of numbered things whose newest stands last, as the list that begins at their end.
use Rattle.std.proofs.Common.{◌≡◌, ℕ, zero, suc, ◌<◌, ◌≤◌, arith, eq-eqb, List, [], ◌∷◌, ◌++◌, length, reverse, Option, Some, None, Bool, true, false, refl, sym, ap, ◌∙◌, get_or, ◌-◌, inl, inr}
use Rattle.std.specs.Prelude.{nat_eq, if◌then◌else◌, slice_get, slice_set, remove}
use Rattle.std.proofs.lemmas.Bool.{ne_eqb, cases_lt}
use Rattle.std.proofs.lemmas.Option.{slice_get_read, slice_get-get_or}
use Rattle.std.proofs.lemmas.Grind.{reverse_onto}
use Rattle.std.proofs.lemmas.List.{append-nil}
use Rattle.uc_machine.specs.Executions.{update}
use Rattle.uc_entry.specs.Keyed.{find}
use Rattle.uc_machine.specs.Switches.{without}
use Rattle.uc_machine.specs.Insides.{shallower}
use Rattle.uc_frames.specs.Numbered.{IsNewest}
use Rattle.uc_frames.proofs.Positions.{some-same, without_none}

module _ {X : Type 0} (k : ℕ) where
  -- of two lists one behind the other, where the first has none with the number

  none_by : (b : Bool) (q : ℕ × X) (x : Option X) → (if b then Some q.1 else x) ≡ None → (b ≡ false) × (x ≡ None)
  none_by true q x e = absurd (cc)
  none_by false q x e = (refl, e)

  find_behind : (ps qs : List (ℕ × X)) → find k ps ≡ None → find k (ps ++ qs) ≡ find k qs
  find_behind [] qs e = refl
  find_behind (p ∷ ps) qs e = let h = none_by (nat_eq p.0 k) p (find k ps) e in rw h.0 (find_behind ps qs h.1)

  update_behind : (x : X) (ps qs : List (ℕ × X)) → find k ps ≡ None → update k x (ps ++ qs) ≡ ps ++ update k x qs
  update_behind x [] qs e = refl
  update_behind x (p ∷ ps) qs e = let h = none_by (nat_eq p.0 k) p (find k ps) e in rw h.0 (ap (λ l. p ∷ l) (update_behind x ps qs h.1))

  without_behind : (ps qs : List (ℕ × X)) → find k ps ≡ None → without k (ps ++ qs) ≡ ps ++ without k qs
  without_behind [] qs e = refl
  without_behind (p ∷ ps) qs e = let h = none_by (nat_eq p.0 k) p (find k ps) e in rw h.0 (ap (λ l. p ∷ l) (without_behind ps qs h.1))

  -- where it has one

  find_before : (x : X) (ps qs : List (ℕ × X)) → find k ps ≡ Some x → find k (ps ++ qs) ≡ Some x
  find_before x [] qs e = absurd (cc)
  find_before x (p ∷ ps) qs e = found_by (nat_eq p.0 k) e (λ h. find_before x ps qs h) where
    found_by : (b : Bool) → (if b then Some p.1 else find k ps) ≡ Some x → (find k ps ≡ Some x → find k (ps ++ qs) ≡ Some x) → (if b then Some p.1 else find k (ps ++ qs)) ≡ Some x
    found_by true e f = e
    found_by false e f = f e

  update_before : (x y : X) (ps qs : List (ℕ × X)) → find k ps ≡ Some x → update k y (ps ++ qs) ≡ update k y ps ++ qs
  update_before x y [] qs e = absurd (cc)
  update_before x y (p ∷ ps) qs e = changed_by (nat_eq p.0 k) e (λ h. update_before x y ps qs h) where
    changed_by : (b : Bool) → (if b then Some p.1 else find k ps) ≡ Some x → (find k ps ≡ Some x → update k y (ps ++ qs) ≡ update k y ps ++ qs) → (if b then (k, y) ∷ (ps ++ qs) else p ∷ update k y (ps ++ qs)) ≡ (if b then (k, y) ∷ ps else p ∷ update k y ps) ++ qs
    changed_by true e f = refl
    changed_by false e f = ap (λ l. p ∷ l) (f e)

  without_before : (x : X) (ps qs : List (ℕ × X)) → find k ps ≡ Some x → without k (ps ++ qs) ≡ without k ps ++ qs
  without_before x [] qs e = absurd (cc)
  without_before x (p ∷ ps) qs e = gone_by (nat_eq p.0 k) e (λ h. without_before x ps qs h) where
    gone_by : (b : Bool) → (if b then Some p.1 else find k ps) ≡ Some x → (find k ps ≡ Some x → without k (ps ++ qs) ≡ without k ps ++ qs) → (if b then ps ++ qs else p ∷ without k (ps ++ qs)) ≡ (if b then ps else p ∷ without k ps) ++ qs
    gone_by true e f = refl
    gone_by false e f = ap (λ l. p ∷ l) (f e)

  -- rows

  abbrev pub NoneFrom : List (ℕ × X) → ℕ → Type 0
  NoneFrom ps i = (j : ℕ) → i ≤ j → (q : ℕ × X) → slice_get ps j ≡ Some q → q.0 ≡ k → ⊥

  one_alone : (q : ℕ × X) → (q.0 ≡ k → ⊥) → find k (q ∷ []) ≡ None
  one_alone q h = let t : nat_eq q.0 k ≡ false = ne_eqb q.0 k h in rw t refl

  pub none_in : (ps : List (ℕ × X)) → NoneFrom ps 0 → find k (reverse ps) ≡ None
  none_in [] none = refl
  none_in (q ∷ ps) none =
      let r = none_in ps (λ j l p s h. none (suc j) (omega arith) p s h) in
      ap (find k) (reverse_onto ps q []) ∙ find_behind (reverse ps) (q ∷ []) r ∙ one_alone q (none 0 (omega arith) q refl)

  pub newest_at : (ps : List (ℕ × X)) (i : ℕ) (x : X) → slice_get ps i ≡ Some (k, x) → NoneFrom ps (suc i) → IsNewest k ps i
  newest_at [] i x e none = absurd (cc)
  newest_at (q ∷ ps) zero x e none =
      let s : q ≡ (k, x) = some-same e in
      let t : nat_eq q.0 k ≡ true = eq-eqb q.0 k (ap (λ r. r.0) s) in
      let r = none_in ps (λ j l p g h. none (suc j) (omega arith) p g h) in
      record {
        within = omega arith;
        item = x;
        is = e;
        finds = ap (find k) (reverse_onto ps q []) ∙ find_behind (reverse ps) (q ∷ []) r ∙ rw t (ap (λ r. Some r.1) s);
        updates = λ y. ap (update k y) (reverse_onto ps q []) ∙ update_behind y (reverse ps) (q ∷ []) r ∙ rw t (sym (reverse_onto ps (k, y) []));
        removes = ap (without k) (reverse_onto ps q []) ∙ without_behind (reverse ps) (q ∷ []) r ∙ rw t (append-nil (reverse ps));
      }
  newest_at (q ∷ ps) (suc i) x e none =
      let r = newest_at ps i x e (λ j l p s h. none (suc j) (omega arith) p s h) in
      let w = r.within in
      record {
        within = omega arith;
        item = r.item;
        is = r.is;
        finds = ap (find k) (reverse_onto ps q []) ∙ find_before r.item (reverse ps) (q ∷ []) r.finds;
        updates = λ y. ap (update k y) (reverse_onto ps q []) ∙ update_before r.item y (reverse ps) (q ∷ []) r.finds ∙ ap (λ l. l ++ q ∷ []) (r.updates y) ∙ sym (reverse_onto (slice_set ps i (k, y)) q []);
        removes = ap (without k) (reverse_onto ps q []) ∙ without_before r.item (reverse ps) (q ∷ []) r.finds ∙ ap (λ l. l ++ q ∷ []) r.removes ∙ sym (reverse_onto (remove ps i) q []);
      }

  -- the search goes from the end
  pub newest_here : (ps : List (ℕ × X)) (at : ℕ) → 0 < at → (at ≤ length ps) × NoneFrom ps at → (d : ℕ × X) → (get_or ps (at - 1) d).0 ≡ k → IsNewest k ps (at - 1)
  newest_here ps at l none d e =
      let p = get_or ps (at - 1) d in
      let is : slice_get ps (at - 1) ≡ Some p = slice_get-get_or ps (at - 1) d (omega (arith, none.0, l)) in
      let n : suc (at - 1) ≡ at = omega (arith, l) in
      newest_at ps (at - 1) p.1 (is ∙ ap (λ z. Some (z, p.1)) e) (λ j g. none.1 j (omega (arith, l, g)))

  pub none_more : (ps : List (ℕ × X)) (at : ℕ) → 0 < at → (at ≤ length ps) × NoneFrom ps at → (d : ℕ × X) → ((get_or ps (at - 1) d).0 ≡ k → ⊥) → (at - 1 ≤ length ps) × NoneFrom ps (at - 1)
  none_more ps at l none d h =
      let is : slice_get ps (at - 1) ≡ Some (get_or ps (at - 1) d) = slice_get-get_or ps (at - 1) d (omega (arith, none.0, l)) in (
        omega (arith, none.0),
        λ j g q s z. elim (cases_lt j at) [
          | inl m ↦
              let n : at - 1 ≡ j = omega (arith, l, g, m) in
              h (ap (λ r. r.0) (some-same (sym is ∙ (ap (slice_get ps) n ∙ s))) ∙ z)
          | inr m ↦ none.1 j m q s z
        ],
      )

-- what an index reads of depths

module _ (k : ℕ) (ps : List (ℕ × ℕ)) (i : ℕ) (h : IsNewest k ps i) (p : ℕ × ℕ) (e : p ≡ get_or ps i p) where
  item_read : p.1 ≡ h.item
  item_read = ap (λ r. r.1) (some-same (sym (slice_get_read ps (length ps) i p refl h.within e) ∙ h.is))

  pub depth_is : find k (reverse ps) ≡ Some p.1
  depth_is = h.finds ∙ ap Some (sym item_read)

  pub less_deep : 1 < p.1 → reverse (slice_set ps i (k, p.1 - 1)) ≡ shallower (find k (reverse ps)) k (reverse ps)
  less_deep l = rw depth_is (less_by p.1 l) where
    less_by : (d : ℕ) → 1 < d → reverse (slice_set ps i (k, d - 1)) ≡ shallower (Some d) k (reverse ps)
    less_by zero l = absurd (omega arith)
    less_by (suc zero) l = absurd (omega arith)
    less_by (suc (suc d)) l = let n : suc (suc d) - 1 ≡ suc d = omega arith in rw n (sym (h.updates (suc d)))

  pub left_here : p.1 ≤ 1 → reverse (remove ps i) ≡ shallower (find k (reverse ps)) k (reverse ps)
  left_here l = rw depth_is (left_by p.1 l) where
    left_by : (d : ℕ) → d ≤ 1 → reverse (remove ps i) ≡ shallower (Some d) k (reverse ps)
    left_by zero l = sym h.removes
    left_by (suc zero) l = sym h.removes
    left_by (suc (suc d)) l = absurd (omega arith)

pub not_inside : (k : ℕ) (ps : List (ℕ × ℕ)) → find k ps ≡ None → ps ≡ shallower (find k ps) k ps
not_inside k ps e = rw e (sym (without_none k ps e))
