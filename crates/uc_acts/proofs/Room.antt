-- A queue leaves room for a task that is not in it.
use Rattle.std.proofs.Common.{◌≡◌, ◌≢◌, ℕ, ℤ, ◌&&◌, suc, ◌==◌, ◌<◌, ◌≤◌, ◌||◌, Bool, true, false, cond, List, [], ◌∷◌, length, map, refl, sym, ap, ◌∙◌, arith, eqb}
use Rattle.std.specs.List.{IsDistinct, AllByRecursion, list_any, filter}
use Rattle.std.proofs.lemmas.Map.Steps.{length-le_from_distinct_below}
use Rattle.std.proofs.lemmas.Bool.{eqb-true, eq-eqb}
use Rattle.uc_acts.specs.Journal.{Journal}
use Rattle.uc_acts.specs.Known.{task_count}
use Rattle.uc_acts.specs.Doors.{blocked_at}
use Rattle.uc_acts.specs.Stations.{Station, Blocked, Running, times, tasks_at, one_if, is_same}
use Rattle.uc_acts.specs.Sound.{Spot, Unborn, Ended, At, spot, here, Sound}
use Rattle.uc_acts.proofs.Seats.{blocked_tasks}
use Rattle.uc_acts.proofs.Moves.{counted_at, known_at}
use Rattle.uc_acts.proofs.SoundLemmas.{self_test}

below_one : (r : Station) (P : Spot) → here r P ≤ 1
below_one r Unborn = omega arith
below_one r Ended = omega arith
below_one r (At q) = by (is_same q r)
  where
    by : (b : Bool) → one_if b ≤ 1
    by true = omega arith
    by false = omega arith

-- a list in which each task stands at most once
once_in : (x : ℕ) (xs : List ℕ) → times x xs ≡ 0 → AllByRecursion (λ y. eqb x y ≡ false) xs
once_in x [] h = tt
once_in x (y ∷ xs) h = by (once_in x xs) (eqb x y) refl h
  where
    by : (times x xs ≡ 0 → AllByRecursion (λ y. eqb x y ≡ false) xs) → (b : Bool) → eqb x y ≡ b → times x (y ∷ xs) ≡ 0 → AllByRecursion (λ z. eqb x z ≡ false) (y ∷ xs)
    by ih true e h = absurd (clash (simp e at h))
      where
        clash : suc (times x xs) ≡ 0 → ⊥
        clash e = cc
    by ih false e h = (e, ih (simp e at h))

distinct_by : (xs : List ℕ) → ((x : ℕ) → times x xs ≤ 1) → IsDistinct eqb xs
unfolding IsDistinct
distinct_by [] h = tt
distinct_by (x ∷ xs) h =
    let self : (x == x) ≡ true = self_test x in
    let here : times x (x ∷ xs) ≡ suc (times x xs) = simp self in
    let one = h x in
    (once_in x xs (omega arith), distinct_by xs (λ y. by y (y == x) (h y)))
  where
    by : (y : ℕ) (b : Bool) → cond b (suc (times y xs)) (times y xs) ≤ 1 → times y xs ≤ 1
    by y true g = omega arith
    by y false g = g

any_times : (q : ℕ) (xs : List ℕ) → list_any (eqb q) xs ≡ true → (n : ℕ) × (times q xs ≡ suc n)
any_times q [] h = cc
any_times q (x ∷ xs) h = by (any_times q xs) (eqb q x) refl h
  where
    by : (list_any (eqb q) xs ≡ true → (n : ℕ) × (times q xs ≡ suc n)) → (b : Bool) → eqb q x ≡ b → (eqb q x || list_any (eqb q) xs) ≡ true → (n : ℕ) × (times q (x ∷ xs) ≡ suc n)
    by ih true e k = (times q xs, simp e)
    by ih false e k = let r = ih (simp e at k) in (r.0, simp e r.1)

-- numbers below n, each at most once, and not u
module _ (xs : List ℕ) (n u : ℕ) (once : (x : ℕ) → times x xs ≤ 1) (below : (x m : ℕ) → times x xs ≡ suc m → x < n) (away : times u xs ≡ 0) (known : u < n) where
  at_most_once : (x : ℕ) → times x (u ∷ xs) ≤ 1
  at_most_once x = by (x == u) refl
    where
      by : (b : Bool) → (x == u) ≡ b → times x (u ∷ xs) ≤ 1
      by true e =
          let same : x ≡ u = eqb-true x u e in
          let none : times x xs ≡ 0 = ap (λ v. times v xs) same ∙ away in
          simp (e, none) (omega arith)
      by false e = let most = once x in simp e (omega arith)

  all_known : (q : ℕ) → list_any (eqb q) (u ∷ xs) ≡ true → q < n
  all_known q h = by (eqb q u) refl h
    where
      by : (b : Bool) → eqb q u ≡ b → (eqb q u || list_any (eqb q) xs) ≡ true → q < n
      by true e k = rw (eqb-true q u e) known
      by false e k = let c = any_times q xs (simp e at k) in below q c.0 c.1

  pub room_of : length xs < n
  room_of =
      let le = length-le_from_distinct_below (u ∷ xs) n (distinct_by (u ∷ xs) at_most_once) all_known in omega arith

module _ (j : Journal) (s : Sound j) where
  -- a queue of one place leaves room for a task elsewhere
  pub room_for : (r : Station) (u : ℕ) → here r (spot u j) ≡ 0 → u < task_count j → length (tasks_at r j) < task_count j
  room_for r u away known =
      room_of (tasks_at r j) (task_count j) u (λ x. let e = s.seats x r in let b = below_one r (spot x j) in omega arith) (λ x m c. known_at j s x r (counted_at j s r x m c)) (s.seats u r ∙ away) known

-- those of one condition are all, where a task waits on no other
one_condition : (t c : ℕ) (xs : List (ℕ × ℕ × ℤ)) → ((d : ℕ) → (c == d) ≡ false → times t (map (λ b. b.0) (filter (λ b. b.1 == d) xs)) ≡ 0) → times t (map (λ b. b.0) xs) ≡ times t (map (λ b. b.0) (filter (λ b. b.1 == c) xs))
one_condition t c [] h = refl
one_condition t c (x ∷ xs) h = by (one_condition t c xs) (t == x.0) (x.1 == c) refl refl
  where
    clash : (b : Bool) → b ≡ true → b ≡ false → ⊥
    clash b t f = cc

    less_other : (t == x.0) ≡ false → (d : ℕ) (k : Bool) → (x.1 == d) ≡ k → times t (map (λ b. b.0) (filter (λ b. b.1 == d) (x ∷ xs))) ≡ 0 → times t (map (λ b. b.0) (filter (λ b. b.1 == d) xs)) ≡ 0
    less_other e d true k z = simp (k, e) at z
    less_other e d false k z = simp k at z

    less_same : (x.1 == c) ≡ true → (d : ℕ) (k : Bool) → (x.1 == d) ≡ k → (c == d) ≡ false → times t (map (λ b. b.0) (filter (λ b. b.1 == d) (x ∷ xs))) ≡ 0 → times t (map (λ b. b.0) (filter (λ b. b.1 == d) xs)) ≡ 0
    less_same g d false k n z = simp k at z
    less_same g d true k n z =
        let same : x.1 ≡ c = eqb-true x.1 c g in
        absurd (clash (c == d) (ap (λ v. v == d) (sym same) ∙ k) n)

    flipped : (x.1 == c) ≡ false → (k : Bool) → (c == x.1) ≡ k → (c == x.1) ≡ false
    flipped g false k = k
    flipped g true k = absurd (clash (x.1 == c) (eq-eqb x.1 c (sym (eqb-true c x.1 k))) g)

    not_zero : (n : ℕ) → suc n ≡ 0 → ⊥
    not_zero n e = cc

    by : (((d : ℕ) → (c == d) ≡ false → times t (map (λ b. b.0) (filter (λ b. b.1 == d) xs)) ≡ 0) → times t (map (λ b. b.0) xs) ≡ times t (map (λ b. b.0) (filter (λ b. b.1 == c) xs))) → (a b : Bool) → (t == x.0) ≡ a → (x.1 == c) ≡ b → times t (map (λ b. b.0) (x ∷ xs)) ≡ times t (map (λ b. b.0) (filter (λ b. b.1 == c) (x ∷ xs)))
    by ih false true e g =
        let r = ih (λ d n. less_other e d (x.1 == d) refl (h d n)) in simp (e, g, r)
    by ih false false e g =
        let r = ih (λ d n. less_other e d (x.1 == d) refl (h d n)) in simp (e, g, r)
    by ih true true e g =
        let r = ih (λ d n. less_same g d (x.1 == d) refl n (h d n)) in simp (e, g, r)
    by ih true false e g =
        let self = self_test x.1 in
        let z = h x.1 (flipped g (c == x.1) refl) in
        absurd (not_zero (times t (map (λ b. b.0) (filter (λ b. b.1 == x.1) xs))) (simp (self, e) at z))

module _ (j : Journal) (s : Sound j) (o : ℕ) where
  seated : (t c : ℕ) → times t (map (λ b. b.0) (filter (λ b. b.1 == c) (blocked_at o j))) ≡ here (Blocked o c) (spot t j)
  seated t c = ap (times t) (sym (blocked_tasks o c j)) ∙ s.seats t (Blocked o c)

  -- how often a task is blocked at an object
  blocked_times : (t : ℕ) (P : Spot) → spot t j ≡ P → (c : ℕ) × (times t (map (λ b. b.0) (blocked_at o j)) ≡ here (Blocked o c) (spot t j))
  blocked_times t (At (Blocked u c)) h =
      (c, one_condition t c (blocked_at o j) (λ d n. seated t d ∙ ap (here (Blocked o d)) h ∙ off d (u == o) n) ∙ seated t c)
    where
      off : (d : ℕ) (b : Bool) → (c == d) ≡ false → one_if (b && (c == d)) ≡ 0
      off d true n = ap one_if n
      off d false n = refl
  blocked_times t P h =
      (0, one_condition t 0 (blocked_at o j) (λ d n. seated t d ∙ ap (here (Blocked o d)) h) ∙ seated t 0)

  -- a task that runs is not blocked
  pub not_blocked : (p t : ℕ) → spot t j ≡ At (Running p) → times t (map (λ b. b.0) (blocked_at o j)) ≡ 0
  not_blocked p t at =
      let own = blocked_times t (At (Running p)) at in own.1 ∙ ap (here (Blocked o own.0)) at

  pub room_blocked : (p t : ℕ) → spot t j ≡ At (Running p) → t < task_count j → length (map (λ b. b.0) (blocked_at o j)) < task_count j
  room_blocked p t at known =
      let own = blocked_times t (At (Running p)) at in
      room_of (map (λ b. b.0) (blocked_at o j)) (task_count j) t (λ x. let e = blocked_times x (spot x j) refl in let b = below_one (Blocked o e.0) (spot x j) in omega (arith, e.1, b)) (λ x m c. let e = blocked_times x (spot x j) refl in known_at j s x (Blocked o e.0) (counted_at j s (Blocked o e.0) x m (s.seats x (Blocked o e.0) ∙ sym e.1 ∙ c))) (own.1 ∙ ap (here (Blocked o own.0)) at) known

-- a task that stands in no list of some tasks, in the words of a pool of nodes
pub in_none : {A : Type 0} (key : A → ℕ) (t : ℕ) (xs : List A) → times t (map key xs) ≡ 0 → AllByRecursion (λ a. key a ≢ t) xs
in_none key t [] h = tt
in_none key t (x ∷ xs) h = by (in_none key t xs) (t == key x) refl h
  where
    no_both : (b : Bool) → b ≡ true → b ≡ false → ⊥
    no_both b t f = cc

    by : (times t (map key xs) ≡ 0 → AllByRecursion (λ a. key a ≢ t) xs) → (b : Bool) → (t == key x) ≡ b → times t (map key (x ∷ xs)) ≡ 0 → AllByRecursion (λ a. key a ≢ t) (x ∷ xs)
    by ih true e k = absurd (clash (simp e at k))
      where
        clash : suc (times t (map key xs)) ≡ 0 → ⊥
        clash e = cc
    by ih false e k =
        (λ same. no_both (t == key x) (eq-eqb t (key x) (sym same)) e, ih (simp e at k))
