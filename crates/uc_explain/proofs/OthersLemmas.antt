-- Whether another task stands at an object.
use Rattle.std.proofs.Common.{◌≡◌, ℕ, ℤ, ◌==◌, ◌||◌, Bool, true, false, cond, not, List, [], ◌∷◌, length, refl, ap, ◌∙◌, arith}
use Rattle.std.specs.Prelude.{nat_lt}
use Rattle.std.specs.List.{list_any, fold}
use Rattle.uc_acts.specs.Journal.{Journal}
use Rattle.uc_acts.specs.Queues.{waiting, stacked}
use Rattle.uc_acts.specs.Doors.{blocked_at, has_others}
use Rattle.uc_explain.specs.Shown.{Shown, shown, placed, in_order}
use Rattle.uc_explain.specs.Steps.{waits_of}

swap : (a b c : Bool) → (a || (b || c)) ≡ (b || (a || c))
swap true true c = refl
swap true false c = refl
swap false true c = refl
swap false false c = refl

module _ {A : Type 0} (key : A → ℕ) (p : A → Bool) where
  any_placed : (x : A) (ys : List A) → list_any p (placed key x ys) ≡ (p x || list_any p ys)
  any_placed x [] = refl
  any_placed x (y ∷ ys) = by (nat_lt (key x) (key y)) (any_placed x ys)
    where
      by : (b : Bool) → list_any p (placed key x ys) ≡ (p x || list_any p ys) → list_any p (cond b (x ∷ y ∷ ys) (y ∷ placed key x ys)) ≡ (p x || (p y || list_any p ys))
      by true h = refl
      by false h = ap (λ b. p y || b) h ∙ swap (p y) (p x) (list_any p ys)

  any_fold : (ys xs : List A) → list_any p (fold (λ l x. placed key x l) ys xs) ≡ (list_any p xs || list_any p ys)
  any_fold ys [] = refl
  any_fold ys (x ∷ xs) =
      any_fold (placed key x ys) xs ∙ ap (λ b. list_any p xs || b) (any_placed x ys) ∙ swap (list_any p xs) (p x) (list_any p ys) ∙ both (p x) (list_any p xs) (list_any p ys)
    where
      both : (a b c : Bool) → (a || (b || c)) ≡ ((a || b) || c)
      both true b c = refl
      both false b c = refl

  pub any_in_order : (xs : List A) → list_any p (in_order key xs) ≡ list_any p xs
  any_in_order xs = any_fold [] xs ∙ none (list_any p xs)
    where
      none : (b : Bool) → (b || false) ≡ b
      none true = refl
      none false = refl

-- the tasks of the waits are those that stand beside the conditions
pub any_wait : (t : ℕ) (cs : List ℕ) (ws : List (ℕ × ℤ)) → length cs ≡ length ws → list_any (λ b. not (b.0 == t)) (waits_of cs ws) ≡ list_any (λ w. not (w.0 == t)) ws
any_wait t [] [] h = refl
any_wait t [] (w ∷ ws) h = absurd (omega (arith, h))
any_wait t (c ∷ cs) [] h = absurd (omega (arith, h))
any_wait t (c ∷ cs) (w ∷ ws) h = ap (λ b. not (w.0 == t) || b) (any_wait t cs ws (omega (arith, h)))

-- of what is shown of an object
pub others_shown : (o t : ℕ) (j : Journal) (s : Shown) → s ≡ shown o j → (list_any (λ w. not (w.0 == t)) s.waiting || (list_any (λ u. not (u == t)) s.stacked || list_any (λ b. not (b.0 == t)) s.blocked)) ≡ has_others o t j
others_shown o t j s e =
    ap (λ (x : Shown). list_any (λ w. not (w.0 == t)) x.waiting || (list_any (λ u. not (u == t)) x.stacked || list_any (λ b. not (b.0 == t)) x.blocked)) e
    ∙ ap (λ b. list_any (λ w. not (w.0 == t)) (waiting o j) || (list_any (λ u. not (u == t)) (stacked o j) || b)) (any_in_order (λ b. b.1) (λ b. not (b.0 == t)) (blocked_at o j))
