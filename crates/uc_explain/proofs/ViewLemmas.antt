-- Those of one condition among the waits.
use Rattle.std.proofs.Common.{◌≡◌, ℕ, ℤ, suc, ◌+◌, ◌-◌, ◌<◌, ◌≤◌, ◌==◌, Bool, true, false, cond, not, List, [], ◌∷◌, length, take, drop, map, refl, sym, ap, ◌∙◌, subst, arith, ◌⊎◌, inl, inr}
use Rattle.std.specs.Prelude.{nat_lt, ◌≢◌, ◌++◌, Option, Some, unwrap_or}
use Rattle.std.specs.Ordering.{nat_cmp, is_eq}
use Rattle.std.specs.declared.cmp.Ordering.TheVariants.{Less, Equal, Greater}
use Rattle.std.specs.BTreeMap.{is_at}
use Rattle.std.specs.List.{filter, prefix_len}
use Rattle.std.proofs.lemmas.Bool.{ltb-true, lt-ltb, eqb-true, eq-eqb, ne_eqb, cases_lt, cases_eq}
use Rattle.uc_entry.specs.declared.entry.Entry.{Entry}
use Rattle.uc_acts.specs.Journal.{Journal}
use Rattle.uc_explain.specs.Shown.{Shown, shown, in_order}
use Rattle.uc_explain.specs.Steps.{waits_of, after, nothing}
use Rattle.uc_explain.proofs.StepLemmas.{shown_same, shown_other}
use Rattle.uc_explain.proofs.OrderLemmas.{AtMost, Ascends, lower, in_order_ascends, in_order_alike}

-- the waits on condition c
abbrev pub waits_on : ℕ → List (ℕ × ℕ × ℤ) → List (ℕ × ℤ)
waits_on c bs = map (λ b. (b.0, b.2)) (filter (λ b. b.1 == c) bs)

abbrev pub first_of : ℕ → List ℕ → ℕ
first_of c cs = prefix_len (λ d. nat_lt d c) cs

abbrev pub last_of : ℕ → List ℕ → ℕ
last_of c cs = prefix_len (λ d. not (nat_lt c d)) cs

not_less : (m n : ℕ) → n ≤ m → nat_lt m n ≡ false
not_less m n le = by (nat_lt m n) refl
  where
    by : (b : Bool) → nat_lt m n ≡ b → b ≡ false
    by true e = absurd (let lt = ltb-true m n e in omega (arith, lt, le))
    by false e = refl

-- how c lies to d
data Lies (d c : ℕ) : Type 0 where
  below : nat_lt d c ≡ true → nat_lt c d ≡ false → (d == c) ≡ false → Lies d c
  same : nat_lt d c ≡ false → nat_lt c d ≡ false → (d == c) ≡ true → Lies d c
  above : nat_lt d c ≡ false → nat_lt c d ≡ true → (d == c) ≡ false → c < d → Lies d c

lies : (d c : ℕ) → Lies d c
lies d c = by (cases_lt d c) (cases_lt c d)
  where
    by : ((d < c) ⊎ (c ≤ d)) → ((c < d) ⊎ (d ≤ c)) → Lies d c
    by (inl lt) g = below (lt-ltb d c lt) (not_less c d (omega (arith, lt))) (ne_eqb d c (λ e. omega (arith, lt, e)))
    by (inr le) (inl lt) = above (not_less d c le) (lt-ltb c d lt) (ne_eqb d c (λ e. omega (arith, lt, e))) lt
    by (inr le) (inr ge) = same (not_less d c le) (not_less c d ge) (eq-eqb d c (omega (arith, le, ge)))

one_more : (n : ℕ) → 1 + n ≡ suc n
one_more n = omega arith

-- none of greater conditions
none_on : (c n : ℕ) (cs : List ℕ) (ws : List (ℕ × ℤ)) → c < n → AtMost (λ b. b.1) n (waits_of cs ws) → waits_on c (waits_of cs ws) ≡ []
none_on c n [] ws lt h = refl
none_on c n (d ∷ cs) [] lt h = refl
none_on c n (d ∷ cs) (w ∷ ws) lt h =
    let g = h.0 in
    let other : (d == c) ≡ false = ne_eqb d c (λ e. omega (arith, lt, g, e)) in
    ap (λ b. map (λ x. (x.0, x.2)) (cond b ((w.0, d, w.1) ∷ filter (λ x. x.1 == c) (waits_of cs ws)) (filter (λ x. x.1 == c) (waits_of cs ws)))) other ∙ none_on c n cs ws lt h.1

-- where no condition is less, they stand in front
front_on : (c : ℕ) (cs : List ℕ) (ws : List (ℕ × ℤ)) → length cs ≡ length ws → AtMost (λ b. b.1) c (waits_of cs ws) → Ascends (λ b. b.1) (waits_of cs ws) → take (last_of c cs) ws ≡ waits_on c (waits_of cs ws)
front_on c [] [] h m a = refl
front_on c [] (w ∷ ws) h m a = absurd (omega (arith, h))
front_on c (d ∷ cs) [] h m a = absurd (omega (arith, h))
front_on c (d ∷ cs) (w ∷ ws) h m a = by (lies d c) (front_on c cs ws (omega (arith, h)) m.1 a.1)
  where
    both : (b t : Bool) → nat_lt c d ≡ b → (d == c) ≡ t → take (cond (not b) (1 + last_of c cs) 0) (w ∷ ws) ≡ map (λ x. (x.0, x.2)) (cond t ((w.0, d, w.1) ∷ filter (λ x. x.1 == c) (waits_of cs ws)) (filter (λ x. x.1 == c) (waits_of cs ws))) → take (last_of c (d ∷ cs)) (w ∷ ws) ≡ waits_on c (waits_of (d ∷ cs) (w ∷ ws))
    both b t e f g =
        ap (λ x. take (cond (not x) (1 + last_of c cs) 0) (w ∷ ws)) e ∙ g ∙ sym (ap (λ x. map (λ y. (y.0, y.2)) (cond x ((w.0, d, w.1) ∷ filter (λ y. y.1 == c) (waits_of cs ws)) (filter (λ y. y.1 == c) (waits_of cs ws)))) f)

    by : Lies d c → take (last_of c cs) ws ≡ waits_on c (waits_of cs ws) → take (last_of c (d ∷ cs)) (w ∷ ws) ≡ waits_on c (waits_of (d ∷ cs) (w ∷ ws))
    by (below l n e) r = absurd (let lt = ltb-true d c l in let g = m.0 in omega (arith, lt, g))
    by (same l n e) r =
        both false true n e (ap (λ k. take k (w ∷ ws)) (one_more (last_of c cs)) ∙ ap (λ l. w ∷ l) r)
    by (above l n e lt) r = both true false n e (sym (none_on c d cs ws lt a.0))

none_first : (c : ℕ) (cs : List ℕ) (ws : List (ℕ × ℤ)) → length cs ≡ length ws → AtMost (λ b. b.1) c (waits_of cs ws) → first_of c cs ≡ 0
none_first c [] ws h m = refl
none_first c (d ∷ cs) [] h m = absurd (omega (arith, h))
none_first c (d ∷ cs) (w ∷ ws) h m = ap (λ b. cond b (1 + first_of c cs) 0) (not_less d c m.0)

-- the waits of one condition are a part of the whole
pub part_on : (c : ℕ) (cs : List ℕ) (ws : List (ℕ × ℤ)) → length cs ≡ length ws → Ascends (λ b. b.1) (waits_of cs ws) → take (last_of c cs - first_of c cs) (drop (first_of c cs) ws) ≡ waits_on c (waits_of cs ws)
part_on c [] [] h a = refl
part_on c [] (w ∷ ws) h a = absurd (omega (arith, h))
part_on c (d ∷ cs) [] h a = absurd (omega (arith, h))
part_on c (d ∷ cs) (w ∷ ws) h a = by (lies d c) (part_on c cs ws (omega (arith, h)) a.1)
  where
    at_front : c ≤ d → take (last_of c (d ∷ cs) - first_of c (d ∷ cs)) (drop (first_of c (d ∷ cs)) (w ∷ ws)) ≡ waits_on c (waits_of (d ∷ cs) (w ∷ ws))
    at_front le =
        let m : AtMost (λ b. b.1) c (waits_of (d ∷ cs) (w ∷ ws)) = (le, lower (λ b. b.1) c d (waits_of cs ws) le a.0) in
        ap (λ k. take (last_of c (d ∷ cs) - k) (drop k (w ∷ ws))) (none_first c (d ∷ cs) (w ∷ ws) h m)
        ∙ ap (λ k. take k (w ∷ ws)) (less_none (last_of c (d ∷ cs)))
        ∙ front_on c (d ∷ cs) (w ∷ ws) h m a
      where
        less_none : (n : ℕ) → n - 0 ≡ n
        less_none n = omega arith

    by : Lies d c → take (last_of c cs - first_of c cs) (drop (first_of c cs) ws) ≡ waits_on c (waits_of cs ws) → take (last_of c (d ∷ cs) - first_of c (d ∷ cs)) (drop (first_of c (d ∷ cs)) (w ∷ ws)) ≡ waits_on c (waits_of (d ∷ cs) (w ∷ ws))
    by (below l n e) r =
        let f : first_of c (d ∷ cs) ≡ suc (first_of c cs) = ap (λ b. cond b (1 + first_of c cs) 0) l ∙ one_more (first_of c cs) in
        let g : last_of c (d ∷ cs) ≡ suc (last_of c cs) = ap (λ b. cond (not b) (1 + last_of c cs) 0) n ∙ one_more (last_of c cs) in
        ap (λ k. take (last_of c (d ∷ cs) - k) (drop k (w ∷ ws))) f ∙ ap (λ k. take (k - suc (first_of c cs)) (drop (first_of c cs) ws)) g
        ∙ ap (λ k. take k (drop (first_of c cs) ws)) (both_less (last_of c cs) (first_of c cs))
        ∙ r
        ∙ sym (ap (λ x. map (λ y. (y.0, y.2)) (cond x ((w.0, d, w.1) ∷ filter (λ y. y.1 == c) (waits_of cs ws)) (filter (λ y. y.1 == c) (waits_of cs ws)))) e)
      where
        both_less : (m n : ℕ) → suc m - suc n ≡ m - n
        both_less m n = omega arith
    by (same l n e) r = at_front (let q = eqb-true d c e in omega (arith, q))
    by (above l n e lt) r = at_front (omega (arith, lt))

-- it begins no later than it ends, within the whole
pub part_within : (c : ℕ) (cs : List ℕ) → first_of c cs ≤ last_of c cs
part_within c [] = omega arith
part_within c (d ∷ cs) = by (lies d c) (part_within c cs)
  where
    by : Lies d c → first_of c cs ≤ last_of c cs → first_of c (d ∷ cs) ≤ last_of c (d ∷ cs)
    by (below l n e) r =
        let f : first_of c (d ∷ cs) ≡ 1 + first_of c cs = ap (λ b. cond b (1 + first_of c cs) 0) l in
        let g : last_of c (d ∷ cs) ≡ 1 + last_of c cs = ap (λ b. cond (not b) (1 + last_of c cs) 0) n in
        omega (arith, f, g, r)
    by (same l n e) r = let f : first_of c (d ∷ cs) ≡ 0 = ap (λ b. cond b (1 + first_of c cs) 0) l in omega (arith, f)
    by (above l n e lt) r = let f : first_of c (d ∷ cs) ≡ 0 = ap (λ b. cond b (1 + first_of c cs) 0) l in omega (arith, f)

-- the same of waits in order of their conditions
pub part_of : (c : ℕ) (cs : List ℕ) (ws : List (ℕ × ℤ)) (bs : List (ℕ × ℕ × ℤ)) → length cs ≡ length ws → waits_of cs ws ≡ in_order (λ b. b.1) bs → take (last_of c cs - first_of c cs) (drop (first_of c cs) ws) ≡ waits_on c bs
part_of c cs ws bs h e =
    part_on c cs ws h (subst (Ascends (λ b. b.1)) (sym e) (in_order_ascends (λ b. b.1) bs)) ∙ ap (waits_on c) e ∙ ap (map (λ b. (b.0, b.2))) (in_order_alike (λ b. b.1) c bs)

-- where nobody is blocked at all
pub none_of : (c : ℕ) (bs : List (ℕ × ℕ × ℤ)) → [] ≡ in_order (λ b. b.1) bs → [] ≡ waits_on c bs
none_of c bs e = ap (waits_on c) e ∙ ap (map (λ b. (b.0, b.2))) (in_order_alike (λ b. b.1) c bs)

-- the views of a journal with an entry more

not_at : (k q : ℕ) → (k ≡ q → ⊥) → is_at (nat_cmp k) q ≡ false
not_at k q n = by (nat_lt k q) (k == q) (ne_eqb k q n)
  where
    by : (b e : Bool) → e ≡ false → is_eq (cond b Less (cond e Equal Greater)) ≡ false
    by true e h = refl
    by false true h = cc
    by false false h = refl

pub grown : (f g : ℕ → Option Shown) (s t : Shown) (e : Entry) (j : Journal) → ((o : ℕ) → unwrap_or (f o) nothing ≡ shown o j) → unwrap_or (f e.object) nothing ≡ s → t ≡ after e s → g e.object ≡ Some t → ((q : ℕ) → is_at (nat_cmp e.object) q ≡ false → g q ≡ f q) → (o : ℕ) → unwrap_or (g o) nothing ≡ shown o (j ++ e ∷ [])
grown f g s t e j h was is here there o = by (cases_eq e.object o)
  where
    by : ((e.object ≡ o) ⊎ (e.object ≢ o)) → unwrap_or (g o) nothing ≡ shown o (j ++ e ∷ [])
    by (inl q) =
        subst (λ x. unwrap_or (g x) nothing ≡ shown x (j ++ e ∷ [])) q
        (ap (λ x. unwrap_or x nothing) here ∙ is ∙ ap (after e) (sym was ∙ h e.object) ∙ sym (shown_same e.object j e (eq-eqb e.object e.object refl)))
    by (inr n) =
        ap (λ x. unwrap_or x nothing) (there o (not_at e.object o n)) ∙ h o ∙ sym (shown_other o j e (ne_eqb e.object o n))
