-- How many of the executions that are left at a home hold a task up, as that changes with them.
use Rattle.std.proofs.Common.{◌≡◌, ℕ, zero, suc, ◌+◌, ◌-◌, ◌<◌, ◌≤◌, arith, List, [], ◌∷◌, ◌++◌, length, Option, Some, None, Bool, true, false, refl, sym, ap, ◌∙◌, get_or}
use Rattle.std.specs.Prelude.{nat_lt, ◌||◌, slice_set, remove, if◌then◌else◌}
use Rattle.std.specs.List.{list_any}
use Rattle.std.proofs.lemmas.List.{length-set, length-append}
use Rattle.std.proofs.lemmas.Bool.{lt-ltb}
use Rattle.std.proofs.lemmas.List.Edits.{length-remove}
use Rattle.uc_machine.specs.declared.exec.Pending.{Pending}
use Rattle.uc_machine.specs.Executions.{Execution}
use Rattle.uc_machine.specs.Insides.{is_engaged}
use Rattle.uc_frames.specs.declared.cell.Cell.{Cell}
use Rattle.uc_frames.specs.Machine.{lively, pended}
use Rattle.uc_frames.specs.Numbered.{IsAt}
use Rattle.uc_frames.specs.Weight.{sum_of}
use Rattle.uc_frames.specs.Engaged.{engaged_in, AreLeft}
use Rattle.uc_frames.proofs.Ascending.{ascends_more, ascends_set, ascends_remove}
use Rattle.uc_frames.proofs.Idling.{last_sum}

abbrev Slot : Type 0
Slot = Option (Execution ℕ Cell)

-- sums

module _ {X : Type 0} (W : X → ℕ) where
  sum_set : (ps : List (ℕ × X)) (i : ℕ) (p : ℕ × X) (y : X) → i < length ps → p ≡ get_or ps i p → sum_of W (slice_set ps i (p.0, y)) + W p.1 ≡ sum_of W ps + W y
  sum_set [] i p y l e = absurd (omega arith)
  sum_set (q ∷ ps) zero p y l e = let s : W p.1 ≡ W q.1 = ap (λ r. W r.1) e in omega arith
  sum_set (q ∷ ps) (suc i) p y l e = let h = sum_set ps i p y (omega arith) e in omega arith

  sum_remove : (ps : List (ℕ × X)) (i : ℕ) (p : ℕ × X) → i < length ps → p ≡ get_or ps i p → sum_of W (remove ps i) + W p.1 ≡ sum_of W ps
  sum_remove [] i p l e = absurd (omega arith)
  sum_remove (q ∷ ps) zero p l e = let s : W p.1 ≡ W q.1 = ap (λ r. W r.1) e in omega arith
  sum_remove (q ∷ ps) (suc i) p l e = let h = sum_remove ps i p (omega arith) e in omega arith

one_at_most : (b : Bool) → (if b then 1 else 0) ≤ 1
one_at_most true = omega arith
one_at_most false = omega arith

pub engaged_few : (x : Slot) → engaged_in x ≤ 1
engaged_few x = one_at_most (is_engaged x)

sum_few : (ps : List (ℕ × Slot)) → sum_of engaged_in ps ≤ length ps
sum_few [] = omega arith
sum_few (p ∷ ps) = let h = sum_few ps in let g = engaged_few p.1 in omega arith

-- whether any is

any_by : (b c : Bool) (n : ℕ) → c ≡ nat_lt 0 n → (b || c) ≡ nat_lt 0 ((if b then 1 else 0) + n)
any_by true c n e = sym (lt-ltb 0 (1 + n) (omega arith))
any_by false c n e = let z : 0 + n ≡ n = omega arith in rw z e

any_is : (ps : List (ℕ × Slot)) → list_any (λ p. is_engaged p.1) ps ≡ nat_lt 0 (sum_of engaged_in ps)
any_is [] = refl
any_is (p ∷ ps) = any_by (is_engaged p.1) _ _ (any_is ps)

-- one of which the counts stay

pub frames_engaged : (g : List (List Cell) → List (List Cell)) (x y : Execution ℕ Cell) (s : Slot) → s ≡ Some x → y ≡ record x { frames = g x.frames } → engaged_in (Some y) ≡ engaged_in s
frames_engaged g x y s e f = ap (λ z. engaged_in (Some z)) f ∙ sym (ap engaged_in e)

lively_by : (b : Bool) (x : Execution ℕ Cell) → engaged_in (Some (record x { links = lively b x.links })) ≡ engaged_in (Some x)
lively_by true x = refl
lively_by false x = refl

pub lively_engaged : (b : Bool) (x y : Execution ℕ Cell) (s : Slot) → s ≡ Some x → y ≡ record x { links = lively b x.links } → engaged_in (Some y) ≡ engaged_in s
lively_engaged b x y s e f = ap (λ z. engaged_in (Some z)) f ∙ (lively_by b x ∙ sym (ap engaged_in e))

pub pended_engaged : (p : Pending) (x y : Execution ℕ Cell) (s : Slot) → s ≡ Some x → y ≡ record x { links = pended p x.links } → engaged_in (Some y) ≡ engaged_in s
pended_engaged p x y s e f = ap (λ z. engaged_in (Some z)) f ∙ sym (ap engaged_in e)

module _ (serial engaged : ℕ) (ps : List (ℕ × Slot)) (h : AreLeft serial engaged ps) where
  pub any_counted : nat_lt 0 engaged ≡ list_any (λ p. is_engaged p.1) ps
  any_counted = ap (nat_lt 0) h.count ∙ sym (any_is ps)

  pub bounded : engaged ≤ serial
  bounded = omega (arith, h.count, h.few, sum_few ps)

  pub left_more : (x : Slot) → AreLeft (serial + 1) (engaged + engaged_in x) (ps ++ (serial, x) ∷ [])
  left_more x = record {
    ascend = ascends_more 0 ps serial (serial + 1) x h.ascend (omega arith);
    few = omega (arith, h.few, length-append ps ((serial, x) ∷ []));
    count = omega (arith, h.count, last_sum engaged_in ps (serial, x));
  }

  module _ (k i : ℕ) (at : IsAt k ps i) (p : ℕ × Slot) (e : p ≡ get_or ps i p) where
    pub takes_less : engaged_in p.1 ≤ engaged
    takes_less = omega (arith, h.count, sum_set engaged_in ps i p None at.within e)

    pub left_set : (y : Slot) → AreLeft serial (engaged - engaged_in p.1 + engaged_in y) (slice_set ps i (p.0, y))
    left_set y = record {
      ascend = ascends_set 0 k ps serial i at h.ascend p e y;
      few = omega (arith, h.few, length-set ps i (p.0, y));
      count = omega (arith, h.count, takes_less, sum_set engaged_in ps i p y at.within e);
    }

    pub set_few : (y : Slot) → engaged - engaged_in p.1 + engaged_in y ≤ serial
    set_few y = let r = left_set y in omega (arith, r.count, r.few, sum_few (slice_set ps i (p.0, y)))

    pub left_same : (y : Slot) → engaged_in y ≡ engaged_in p.1 → AreLeft serial engaged (slice_set ps i (p.0, y))
    left_same y q = record {
      ascend = ascends_set 0 k ps serial i at h.ascend p e y;
      few = omega (arith, h.few, length-set ps i (p.0, y));
      count = omega (arith, h.count, q, sum_set engaged_in ps i p y at.within e);
    }

    pub left_removed : AreLeft serial (engaged - engaged_in p.1) (remove ps i)
    left_removed = record {
      ascend = ascends_remove 0 k ps serial i at h.ascend;
      few = omega (arith, h.few, length-remove ps i at.within);
      count = omega (arith, h.count, sum_remove engaged_in ps i p at.within e);
    }
