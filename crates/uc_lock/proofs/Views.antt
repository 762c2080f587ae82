-- Lists of views, and journals.
use Rattle.std.proofs.Common.{◌≡◌, ◌≢◌, ◌⊎◌, ℕ, zero, suc, ◌+◌, ◌<◌, ◌≤◌, List, [], ◌∷◌, ◌++◌, length, set, Bool, true, false, true≢false, eqb, cond, refl, sym, ap, ◌∙◌, subst, ⊎_elim, inl, inr, arith, ne_eqb, append_assoc}
use Rattle.std.specs.List.{All}
use Rattle.std.proofs.lemmas.List.Elements.{filter-append, All-append}
use Rattle.std.proofs.lemmas.List.{append-nil}
use mathlib.Core.Option.{some, some-injective, some-ne-none}
use lib.ListN.{get_elem?}
use Rattle.atomic_table.proofs.Lists.{at_set, set_else}
use Rattle.uc_lock.specs.declared.view.View.{View}
use Rattle.uc_lock.specs.declared.view.Stage.{Stage}
use Rattle.uc_lock.specs.declared.view.Stage.TheVariants.{Idle, Waiting, Turn}
use Rattle.uc_lock.specs.Journals.{Begins, made_by, Extends, GrownBelow}
use Rattle.uc_lock.specs.Rule.{out, HasTicket, tickets, Remembers}

module _ {A : Type 0} where
  pub all_head : (P : A → Type 0) (e : A) (es : List A) → All P (e ∷ es) → P e
  all_head P e es h = h 0 e (omega arith)

  pub all_tail : (P : A → Type 0) (e : A) (es : List A) → All P (e ∷ es) → All P es
  all_tail P e es h k d lt = h (suc k) d (omega arith)

  pub begins_same : (xs : List A) → Begins xs xs
  begins_same xs = ([], sym (append-nil xs))

  pub begins_longer : (xs ys zs : List A) → Begins xs ys → Begins ys zs → Begins xs zs
  begins_longer xs ys zs p q = (p.0 ++ q.0, q.1 ∙ (ap (λ w. w ++ q.0) p.1 ∙ append_assoc xs p.0 q.0))

  -- what holds of the new view, and of each other, holds of all
  pub each_set : (P : ℕ → A → Type 0) (l : List A) (i : ℕ) (w : A) → ((j : ℕ) (u : A) → j ≢ i → get_elem? l j ≡ some u → P j u) → P i w → (j : ℕ) (u : A) → get_elem? (set l i w) j ≡ some u → P j u
  each_set P l i w others mine j u e = ⊎_elim
      (λ (x : (j ≡ i) × (w ≡ u)). subst (λ (y : ℕ × A). P y.0 y.1) (λ k. (sym x.0 k, x.1 k)) mine)
      (λ (x : (j ≢ i) × (get_elem? l j ≡ some u)). others j u x.0 x.1)
      (at_set l i j w u e)

  pub set_at : (l : List A) (i : ℕ) (v w : A) → get_elem? l i ≡ some v → get_elem? (set l i w) i ≡ some w
  set_at [] i v w e = absurd (some-ne-none v (sym e))
  set_at (x ∷ xs) zero v w e = refl
  set_at (x ∷ xs) (suc i) v w e = set_at xs i v w e

  pub at_below : (l : List A) (i : ℕ) (v : A) → get_elem? l i ≡ some v → i < length l
  at_below [] i v e = absurd (some-ne-none v (sym e))
  at_below (x ∷ xs) zero v e = omega arith
  at_below (x ∷ xs) (suc i) v e = let r = at_below xs i v e in omega arith

  pub one_set : (l : List A) (v : A) → length l ≡ 1 → set l 0 v ≡ v ∷ []
  one_set [] v e = absurd (omega arith)
  one_set (x ∷ []) v e = refl
  one_set (x ∷ y ∷ ys) v e = absurd (omega arith)

  at_end : (l : List A) (a b : A) (j : ℕ) → get_elem? (l ++ a ∷ []) j ≡ some b → (get_elem? l j ≡ some b) ⊎ ((j ≡ length l) × (a ≡ b))
  at_end [] a b zero e = inr (refl, some-injective a b e)
  at_end [] a b (suc j) e = absurd (some-ne-none b (sym e))
  at_end (x ∷ xs) a b zero e = inl e
  at_end (x ∷ xs) a b (suc j) e = ⊎_elim (λ h. inl h) (λ (h : (j ≡ length xs) × (a ≡ b)). inr (ap suc h.0, h.1)) (at_end xs a b j e)

  -- what holds of the new last one, and of each before, holds of all
  pub each_snoc : (P : ℕ → A → Type 0) (l : List A) (a : A) → ((j : ℕ) (u : A) → get_elem? l j ≡ some u → P j u) → P (length l) a → (j : ℕ) (u : A) → get_elem? (l ++ a ∷ []) j ≡ some u → P j u
  each_snoc P l a others mine j u e = ⊎_elim
      (λ h. others j u h)
      (λ (h : (j ≡ length l) × (a ≡ u)). subst (λ (y : ℕ × A). P y.0 y.1) (λ k. (sym h.0 k, h.1 k)) mine)
      (at_end l a u j e)

module _ {I : Type 0} where
  pub made_by_other : (n j : ℕ) (es : List (I × ℕ)) → All (λ e. e.1 ≡ n) es → j ≢ n → made_by j es ≡ []
  made_by_other n j [] a ne = refl
  made_by_other n j (e ∷ es) a ne = let miss : eqb e.1 j ≡ false = ne_eqb e.1 j (λ h. ne (sym h ∙ all_head (λ e. e.1 ≡ n) e es a)) in
      ap (λ (b : Bool). cond b (e ∷ made_by j es) (made_by j es)) miss ∙ made_by_other n j es (all_tail (λ e. e.1 ≡ n) e es a) ne

  -- where no item has a maker below n, no maker below n has an item
  pub made_by_below : (n j : ℕ) (es : List (I × ℕ)) → All (λ e. n ≤ e.1) es → j < n → made_by j es ≡ []
  made_by_below n j [] a lt = refl
  made_by_below n j (e ∷ es) a lt = let here = all_head (λ e. n ≤ e.1) e es a in let miss : eqb e.1 j ≡ false = ne_eqb e.1 j (λ h. absurd (omega arith)) in
      ap (λ (b : Bool). cond b (e ∷ made_by j es) (made_by j es)) miss ∙ made_by_below n j es (all_tail (λ e. n ≤ e.1) e es a) lt

  pub grown_none : (n : ℕ) (es : List (I × ℕ)) → GrownBelow n es es
  grown_none n es = ([], sym (append-nil es), λ k d lt. absurd (omega arith))

  -- items of one maker below n at the end
  pub grown_more : (n m : ℕ) (start xs ys : List (I × ℕ)) → m < n → GrownBelow n start xs → Extends m xs ys → GrownBelow n start ys
  grown_more n m start xs ys lt g e = (g.0 ++ e.0, e.1 ∙ (ap (λ w. w ++ e.0) g.1 ∙ append_assoc start g.0 e.0), All-append (λ e. e.1 < n) g.0 e.0 g.2 (λ k d le. subst (λ z. z < n) (sym (e.2 k d le)) lt))

  pub made_by_longer : (n j : ℕ) (xs ys : List (I × ℕ)) → Extends n xs ys → j ≢ n → made_by j ys ≡ made_by j xs
  made_by_longer n j xs ys x ne = ap (made_by j) x.1 ∙ (filter-append (λ (e : I × ℕ). eqb e.1 j) xs x.0 ∙ (ap (λ w. made_by j xs ++ w) (made_by_other n j x.0 x.2 ne) ∙ append-nil (made_by j xs)))

pub out_least : (g : Stage) → out g ≤ 1
out_least Idle = omega arith
out_least (Waiting t) = omega arith
out_least (Turn t) = omega arith

module _ {K I : Type 0} where
  -- no two seats have the ticket t
  abbrev pub Apart : ℕ → List (View K I) → Type 0
  Apart t l = (i j : ℕ) (v w : View K I) → get_elem? l i ≡ some v → get_elem? l j ≡ some w → HasTicket t v.stage → HasTicket t w.stage → i ≡ j

  pub apart_set : (t : ℕ) (l : List (View K I)) (i : ℕ) (w : View K I) → Apart t l → ((j : ℕ) (u : View K I) → j ≢ i → get_elem? l j ≡ some u → HasTicket t u.stage → HasTicket t w.stage → ⊥) → Apart t (set l i w)
  apart_set t l id w h clash i j u x ei ej hu hx = ⊎_elim
      (λ (a : (i ≡ id) × (w ≡ u)). ⊎_elim
      (λ (b : (j ≡ id) × (w ≡ x)). a.0 ∙ sym b.0)
      (λ (b : (j ≢ id) × (get_elem? l j ≡ some x)). absurd (clash j x b.0 b.1 hx (subst (λ (y : View K I). HasTicket t y.stage) (sym a.1) hu)))
      (at_set l id j w x ej))
      (λ (a : (i ≢ id) × (get_elem? l i ≡ some u)). ⊎_elim
      (λ (b : (j ≡ id) × (w ≡ x)). absurd (clash i u a.0 a.1 hu (subst (λ (y : View K I). HasTicket t y.stage) (sym b.1) hx)))
      (λ (b : (j ≢ id) × (get_elem? l j ≡ some x)). h i j u x a.1 b.1 hu hx)
      (at_set l id j w x ej))
      (at_set l id i w u ei)

  pub apart_snoc : (t : ℕ) (l : List (View K I)) (a : View K I) → Apart t l → (HasTicket t a.stage → ⊥) → Apart t (l ++ a ∷ [])
  apart_snoc t l a h none i j u x ei ej hu hx = each_snoc (λ i u. HasTicket t u.stage → i ≡ j) l a
      (λ i u e hu. each_snoc (λ j x. HasTicket t x.stage → i ≡ j) l a (λ j x e' hx. h i j u x e e' hu hx) (λ hx. absurd (none hx)) j x ej hx)
      (λ hu. absurd (none hu)) i u ei hu

  pub tickets_snoc : (l : List (View K I)) (a : View K I) → tickets (l ++ a ∷ []) ≡ tickets l + out a.stage
  tickets_snoc [] a = omega arith
  tickets_snoc (x ∷ xs) a = let r = tickets_snoc xs a in omega arith

  pub tickets_set : (l : List (View K I)) (i : ℕ) (v w : View K I) → get_elem? l i ≡ some v → tickets (set l i w) + out v.stage ≡ tickets l + out w.stage
  tickets_set [] i v w e = absurd (some-ne-none v (sym e))
  tickets_set (x ∷ xs) zero v w e = let is : out x.stage ≡ out v.stage = ap (λ (m : View K I). out m.stage) (some-injective x v e) in omega arith
  tickets_set (x ∷ xs) (suc i) v w e = let r = tickets_set xs i v w e in omega arith

  pub tickets_few : (l : List (View K I)) → tickets l ≤ length l
  tickets_few [] = omega arith
  tickets_few (x ∷ xs) = let r = tickets_few xs in let o = out_least x.stage in omega arith

  -- a view that is not spent may change, but for what it keeps of others
  pub remembers_set : (journal : List (I × ℕ)) (l : List (View K I)) (i : ℕ) (v w : View K I) → get_elem? l i ≡ some v → v.spent ≡ false → (u : View K I) → Remembers journal l u → Remembers journal (set l i w) u
  remembers_set journal l i v w at unspent u h j e is = let a = h j e is in let x = a.0 in
      ((x.0, set_else l i e.number w (λ same. not_both v x.0 (some-injective v x.0 (sym at ∙ (ap (get_elem? l) (sym same) ∙ x.1))) unspent x.2) ∙ x.1, x.2), a.1, a.2)
    where
      not_both : (v x : View K I) → v ≡ x → v.spent ≡ false → x.spent ≡ true → ⊥
      not_both v x same a b = true≢false (sym b ∙ (ap (λ (y : View K I). y.spent) (sym same) ∙ a))
