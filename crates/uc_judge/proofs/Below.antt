-- Whether nobody is ready, or runs, on any of the first so many clusters or processors.
use Rattle.std.proofs.Common.{◌≡◌, ◌⊎◌, ℕ, zero, suc, ◌+◌, ◌<◌, ◌≤◌, ◌==◌, ◌&&◌, ◌||◌, Bool, true, false, cond, not, List, [], ◌∷◌, ◌++◌, Option, Some, None, map, drop, length, get_or, refl, sym, ap, ◌∙◌, arith, inl, inr}
use Rattle.std.specs.Prelude.{nat_lt, is_some, ◌≢◌}
use Rattle.std.specs.List.{filter, list_any, list_all, range_with_len}
use Rattle.std.proofs.lemmas.Bool.{ltb-true, lt-ltb, eq-eqb, ne_eqb, cases_lt, cases_eq}
use Rattle.std.proofs.lemmas.List.{at_drop_more}
use Rattle.uc_entry.specs.declared.entry.Options.{Options}
use Rattle.uc_acts.specs.Answers.{first_of}
use Rattle.uc_acts.specs.Journal.{Journal}
use Rattle.uc_acts.specs.Queues.{is_nobody, ready, running, none_running, none_ready, none_served, processor_count, cluster_count, open_processors}
use Rattle.uc_judge.specs.Scheduled.{all_ready, all_running, of_number, only_of}
use Rattle.uc_judge.proofs.Rows.{ready_on, running_on}
use Rattle.uc_judge.proofs.Housing.{range_push}

nobody_of : (k : ℕ) (rows : List (ℕ × ℕ)) → is_nobody (of_number k rows) ≡ not (list_any (λ r. r.1 == k) rows)
nobody_of k [] = refl
nobody_of k (x ∷ rows) = by (x.1 == k) (nobody_of k rows)
  where
    by : (b : Bool) → is_nobody (of_number k rows) ≡ not (list_any (λ r. r.1 == k) rows) → is_nobody (map (λ r. r.0) (cond b (x ∷ filter (λ r. r.1 == k) rows) (filter (λ r. r.1 == k) rows))) ≡ not (b || list_any (λ r. r.1 == k) rows)
    by true h = refl
    by false h = h

lt_more : (r n : ℕ) → nat_lt r (n + 1) ≡ (nat_lt r n || (r == n))
lt_more r n = by (cases_lt r n) (cases_eq r n)
  where
    not_less : (m n : ℕ) → n ≤ m → nat_lt m n ≡ false
    not_less m n le = go (nat_lt m n) refl
      where
        go : (b : Bool) → nat_lt m n ≡ b → b ≡ false
        go true e = absurd (let lt = ltb-true m n e in omega (arith, lt, le))
        go false e = refl

    by : ((r < n) ⊎ (n ≤ r)) → ((r ≡ n) ⊎ (r ≢ n)) → nat_lt r (n + 1) ≡ (nat_lt r n || (r == n))
    by (inl lt) c = lt-ltb r (n + 1) (omega (arith, lt)) ∙ sym (ap (λ b. b || (r == n)) (lt-ltb r n lt))
    by (inr le) (inl e) =
        lt-ltb r (n + 1) (omega (arith, e)) ∙ sym (ap (λ b. b || (r == n)) (not_less r n le) ∙ eq-eqb r n e)
    by (inr le) (inr ne) =
        not_less r (n + 1) (omega (arith, le, ne)) ∙ sym (ap (λ b. b || (r == n)) (not_less r n le) ∙ ne_eqb r n ne)

any_more : (n : ℕ) (rows : List (ℕ × ℕ)) → list_any (λ r. nat_lt r.1 (n + 1)) rows ≡ (list_any (λ r. nat_lt r.1 n) rows || list_any (λ r. r.1 == n) rows)
any_more n [] = refl
any_more n (x ∷ rows) =
    ap (λ b. b || list_any (λ r. nat_lt r.1 (n + 1)) rows) (lt_more x.1 n) ∙ ap (λ b. (nat_lt x.1 n || (x.1 == n)) || b) (any_more n rows) ∙ swap (nat_lt x.1 n) (x.1 == n) (list_any (λ r. nat_lt r.1 n) rows) (list_any (λ r. r.1 == n) rows)
  where
    swap : (a b c d : Bool) → ((a || b) || (c || d)) ≡ ((a || c) || (b || d))
    swap true b c d = refl
    swap false true true d = refl
    swap false true false d = refl
    swap false false c d = refl

all_push : {A : Type 0} (p : A → Bool) (xs : List A) (x : A) → list_all p (xs ++ x ∷ []) ≡ (list_all p xs && p x)
all_push p [] x = by (p x)
  where
    by : (b : Bool) → (b && true) ≡ b
    by true = refl
    by false = refl
all_push p (y ∷ xs) x = ap (λ b. p y && b) (all_push p xs x) ∙ by (p y) (list_all p xs) (p x)
  where
    by : (a b c : Bool) → (a && (b && c)) ≡ ((a && b) && c)
    by true b c = refl
    by false b c = refl

nobody_below : (n : ℕ) (rows : List (ℕ × ℕ)) → not (list_any (λ r. nat_lt r.1 n) rows) ≡ list_all (λ k. is_nobody (of_number k rows)) (range_with_len 0 n)
nobody_below zero rows = none rows
  where
    never : (n : ℕ) → nat_lt n 0 ≡ false
    never n = go (nat_lt n 0) refl
      where
        go : (b : Bool) → nat_lt n 0 ≡ b → b ≡ false
        go true e = absurd (let lt = ltb-true n 0 e in omega (arith, lt))
        go false e = refl

    none : (rows : List (ℕ × ℕ)) → not (list_any (λ r. nat_lt r.1 0) rows) ≡ true
    none [] = refl
    none (x ∷ rows) = ap (λ b. not (b || list_any (λ r. nat_lt r.1 0) rows)) (never x.1) ∙ none rows
nobody_below (suc n) rows =
    ap (λ k. not (list_any (λ r. nat_lt r.1 k) rows)) (next n)
    ∙ ap not (any_more n rows)
    ∙ both (list_any (λ r. nat_lt r.1 n) rows) (list_any (λ r. r.1 == n) rows)
    ∙ ap (λ b. b && not (list_any (λ r. r.1 == n) rows)) (nobody_below n rows)
    ∙ ap (λ b. list_all (λ k. is_nobody (of_number k rows)) (range_with_len 0 n) && b) (sym (nobody_of n rows))
    ∙ sym (all_push (λ k. is_nobody (of_number k rows)) (range_with_len 0 n) n)
    ∙ ap (λ k. list_all (λ k. is_nobody (of_number k rows)) (range_with_len 0 n ++ k ∷ [])) (nothing n)
    ∙ sym (ap (list_all (λ k. is_nobody (of_number k rows))) (range_push 0 n))
    ∙ ap (λ k. list_all (λ k. is_nobody (of_number k rows)) (range_with_len 0 k)) (sym (next n))
  where
    next : (n : ℕ) → suc n ≡ n + 1
    next n = omega arith

    nothing : (n : ℕ) → n ≡ 0 + n
    nothing n = omega arith

    both : (a b : Bool) → not (a || b) ≡ (not a && not b)
    both true b = refl
    both false b = refl

all_alike : {A : Type 0} (p q : A → Bool) → ((x : A) → p x ≡ q x) → (xs : List A) → list_all p xs ≡ list_all q xs
all_alike p q h [] = refl
all_alike p q h (x ∷ xs) = ap (λ b. b && list_all p xs) (h x) ∙ ap (λ b. q x && b) (all_alike p q h xs)

pub none_runs : (opts : Options) (j : Journal) (n : ℕ) (rows : List (ℕ × ℕ)) → n ≡ processor_count opts j → rows ≡ all_running j → not (list_any (λ r. nat_lt r.1 n) rows) ≡ none_running opts j
unfolding none_running
none_runs opts j n rows h is =
    nobody_below n rows ∙ ap (λ k. list_all (λ k. is_nobody (of_number k rows)) (range_with_len 0 k)) h ∙ all_alike (λ k. is_nobody (of_number k rows)) (λ k. is_nobody (running k j)) (λ k. ap is_nobody (ap (of_number k) is ∙ sym (running_on k j))) (range_with_len 0 (processor_count opts j))

pub none_waits : (j : Journal) (n : ℕ) (rows : List (ℕ × ℕ)) → n ≡ cluster_count j → rows ≡ all_ready j → not (list_any (λ r. nat_lt r.1 n) rows) ≡ none_ready j
unfolding none_ready
none_waits j n rows h is =
    nobody_below n rows ∙ ap (λ k. list_all (λ k. is_nobody (of_number k rows)) (range_with_len 0 k)) h ∙ all_alike (λ k. is_nobody (of_number k rows)) (λ k. is_nobody (ready k j)) (λ k. ap is_nobody (ap (of_number k) is ∙ sym (ready_on k j))) (range_with_len 0 (cluster_count j))

pub none_is_served : (opts : Options) (j : Journal) (rows ps : List (ℕ × ℕ)) → ps ≡ open_processors opts j → rows ≡ all_ready j → list_all (λ x. is_nobody (of_number x.1 rows)) ps ≡ none_served opts j
unfolding none_served
none_is_served opts j rows ps h is =
    ap (list_all (λ (x : ℕ × ℕ). is_nobody (of_number x.1 rows))) h ∙ all_alike (λ (x : ℕ × ℕ). is_nobody (of_number x.1 rows)) (λ x. is_nobody (ready x.1 j)) (λ x. ap is_nobody (ap (of_number x.1) is ∙ sym (ready_on x.1 j))) (open_processors opts j)

-- the processors from one on

module _ (rows ps : List (ℕ × ℕ)) (i : ℕ) (x : ℕ × ℕ) where
  on_step : i < length ps → x ≡ get_or ps i x → list_all (λ x. is_nobody (of_number x.1 rows)) (drop i ps) ≡ (is_nobody (of_number x.1 rows) && list_all (λ x. is_nobody (of_number x.1 rows)) (drop (i + 1) ps))
  on_step lt same =
      at_drop_more (list_all (λ (x : ℕ × ℕ). is_nobody (of_number x.1 rows))) ps i x lt ∙ ap (λ (y : ℕ × ℕ). is_nobody (of_number y.1 rows) && list_all (λ (x : ℕ × ℕ). is_nobody (of_number x.1 rows)) (drop (i + 1) ps)) (sym same)

  pub somebody_on : i < length ps → x ≡ get_or ps i x → (o : Option ℕ) → o ≡ first_of (of_number x.1 rows) → is_some o ≡ true → false ≡ list_all (λ x. is_nobody (of_number x.1 rows)) (drop i ps)
  somebody_on lt same o e s =
      sym (on_step lt same ∙ ap (λ b. b && list_all (λ x. is_nobody (of_number x.1 rows)) (drop (i + 1) ps)) (found (of_number x.1 rows) (sym (ap is_some e) ∙ s)))
    where
      found : (xs : List ℕ) → is_some (first_of xs) ≡ true → is_nobody xs ≡ false
      found [] s = cc
      found (x ∷ xs) s = refl

  pub nobody_on : i < length ps → x ≡ get_or ps i x → (o : Option ℕ) → o ≡ first_of (of_number x.1 rows) → is_some o ≡ false → list_all (λ x. is_nobody (of_number x.1 rows)) (drop i ps) ≡ list_all (λ x. is_nobody (of_number x.1 rows)) (drop (i + 1) ps)
  nobody_on lt same o e s =
      on_step lt same ∙ ap (λ b. b && list_all (λ x. is_nobody (of_number x.1 rows)) (drop (i + 1) ps)) (found (of_number x.1 rows) (sym (ap is_some e) ∙ s))
    where
      found : (xs : List ℕ) → is_some (first_of xs) ≡ false → is_nobody xs ≡ true
      found [] s = refl
      found (x ∷ xs) s = cc

-- the only row of a number

module _ (k : ℕ) (rows : List (ℕ × ℕ)) (i : ℕ) (x : ℕ × ℕ) where
  abbrev later : List ℕ
  later = of_number k (drop (i + 1) rows)

  only_step : i < length rows → x ≡ get_or rows i x → (b : Bool) → (x.1 == k) ≡ b → of_number k (drop i rows) ≡ cond b (x.0 ∷ later) later
  only_step lt same b h =
      at_drop_more (of_number k) rows i x lt ∙ ap (λ (y : ℕ × ℕ). map (λ (r : ℕ × ℕ). r.0) (cond (y.1 == k) (y ∷ filter (λ r. r.1 == k) (drop (i + 1) rows)) (filter (λ r. r.1 == k) (drop (i + 1) rows)))) (sym same) ∙ ap (λ c. map (λ (r : ℕ × ℕ). r.0) (cond c (x ∷ filter (λ r. r.1 == k) (drop (i + 1) rows)) (filter (λ r. r.1 == k) (drop (i + 1) rows)))) h ∙ by b
    where
      by : (b : Bool) → map (λ (r : ℕ × ℕ). r.0) (cond b (x ∷ filter (λ r. r.1 == k) (drop (i + 1) rows)) (filter (λ r. r.1 == k) (drop (i + 1) rows))) ≡ cond b (x.0 ∷ later) later
      by true = refl
      by false = refl

  pub only_here : i < length rows → x ≡ get_or rows i x → x.1 ≡ k → None ≡ first_of later → Some x.0 ≡ only_of (of_number k (drop i rows))
  only_here lt same h none = sym (ap only_of (only_step lt same true (eq-eqb x.1 k h)) ∙ by later none)
    where
      by : (l : List ℕ) → None ≡ first_of l → only_of (x.0 ∷ l) ≡ Some x.0
      by [] e = refl
      by (y ∷ l) e = cc

  pub not_only : i < length rows → x ≡ get_or rows i x → x.1 ≡ k → (y : ℕ) → Some y ≡ first_of later → None ≡ only_of (of_number k (drop i rows))
  not_only lt same h y some = sym (ap only_of (only_step lt same true (eq-eqb x.1 k h)) ∙ by later some)
    where
      by : (l : List ℕ) → Some y ≡ first_of l → only_of (x.0 ∷ l) ≡ None
      by [] e = cc
      by (z ∷ l) e = refl

  pub only_past : i < length rows → x ≡ get_or rows i x → (x.1 ≡ k → ⊥) → only_of (of_number k (drop i rows)) ≡ only_of later
  only_past lt same h = ap only_of (only_step lt same false (ne_eqb x.1 k h))
