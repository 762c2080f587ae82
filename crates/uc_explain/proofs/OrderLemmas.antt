-- Lists in order of their numbers.
use Rattle.std.proofs.Common.{◌≡◌, ◌⊎◌, ℕ, suc, ◌+◌, ◌<◌, ◌≤◌, Bool, true, false, cond, not, List, [], ◌∷◌, ◌++◌, Option, Some, None, refl, sym, ap, ◌∙◌, arith, append-nil, append_assoc, ◌==◌, inl, inr}
use Rattle.std.specs.Prelude.{nat_lt}
use Rattle.std.specs.Option.{option_to_list}
use Rattle.std.specs.List.{filter, fold, insert, prefix_len}
use Rattle.std.proofs.lemmas.Bool.{ltb-true, lt-ltb, eqb-true, cases_lt}
use Rattle.std.proofs.lemmas.List.Sums.{fold-append}
use Rattle.uc_explain.specs.Shown.{placed, in_order}
use Rattle.uc_explain.specs.Steps.{placed_if}

not_lt : (m n : ℕ) → nat_lt m n ≡ false → n ≤ m
not_lt m n h = by (cases_lt m n)
  where
    by : (m < n) ⊎ (n ≤ m) → n ≤ m
    by (inl lt) = absurd (no_both (nat_lt m n) (lt-ltb m n lt) h)
      where
        no_both : (b : Bool) → b ≡ true → b ≡ false → ⊥
        no_both b t f = cc
    by (inr le) = le

-- the place of an insertion
pub insert_placed : {A : Type 0} (key : A → ℕ) (x : A) (ys : List A) → insert ys (prefix_len (λ y. not (nat_lt (key x) (key y))) ys) x ≡ placed key x ys
insert_placed key x [] = refl
insert_placed {A} key x (y ∷ ys) = by (nat_lt (key x) (key y)) (insert_placed key x ys)
  where
    by : (b : Bool) → insert ys (prefix_len (λ y. not (nat_lt (key x) (key y))) ys) x ≡ placed key x ys → insert (y ∷ ys) (cond (not b) (1 + prefix_len (λ y. not (nat_lt (key x) (key y))) ys) 0) x ≡ cond b (x ∷ y ∷ ys) (y ∷ placed key x ys)
    by true h = refl
    by false h =
        let e : 1 + prefix_len (λ y. not (nat_lt (key x) (key y))) ys ≡ suc (prefix_len (λ y. not (nat_lt (key x) (key y))) ys) = omega arith in
        ap (λ k. insert (y ∷ ys) k x) e ∙ ap (λ l. y ∷ l) h

module _ {A : Type 0} (key : A → ℕ) where
  -- n is at most the number of each
  abbrev pub AtMost : ℕ → List A → Type 0
  AtMost n [] = Unit {0}
  AtMost n (y ∷ ys) = (n ≤ key y) × AtMost n ys

  abbrev pub Ascends : List A → Type 0
  Ascends [] = Unit {0}
  Ascends (y ∷ ys) = AtMost (key y) ys × Ascends ys

  pub lower : (m n : ℕ) (ys : List A) → m ≤ n → AtMost n ys → AtMost m ys
  lower m n [] le h = tt
  lower m n (y ∷ ys) le h = (let g = h.0 in omega arith, lower m n ys le h.1)

  filter_least : (p : A → Bool) (n : ℕ) (ys : List A) → AtMost n ys → AtMost n (filter p ys)
  filter_least p n [] h = tt
  filter_least p n (y ∷ ys) h = by (p y) (filter_least p n ys h.1)
    where
      by : (b : Bool) → AtMost n (filter p ys) → AtMost n (cond b (y ∷ filter p ys) (filter p ys))
      by true g = (h.0, g)
      by false g = g

  placed_least : (n : ℕ) (x : A) (ys : List A) → n ≤ key x → AtMost n ys → AtMost n (placed key x ys)
  placed_least n x [] le h = (le, tt)
  placed_least n x (y ∷ ys) le h = by (nat_lt (key x) (key y)) (placed_least n x ys le h.1)
    where
      by : (b : Bool) → AtMost n (placed key x ys) → AtMost n (cond b (x ∷ y ∷ ys) (y ∷ placed key x ys))
      by true g = (le, h)
      by false g = (h.0, g)

  pub placed_ascends : (x : A) (ys : List A) → Ascends ys → Ascends (placed key x ys)
  placed_ascends x [] h = (tt, tt)
  placed_ascends x (y ∷ ys) h = by (nat_lt (key x) (key y)) refl (placed_ascends x ys h.1)
    where
      by : (b : Bool) → nat_lt (key x) (key y) ≡ b → Ascends (placed key x ys) → Ascends (cond b (x ∷ y ∷ ys) (y ∷ placed key x ys))
      by true e g =
          let lt = ltb-true (key x) (key y) e in
          let le : key x ≤ key y = omega (arith, lt) in
          ((le, lower (key x) (key y) ys le h.0), h)
      by false e g = (placed_least (key y) x ys (not_lt (key x) (key y) e) h.0, g)

  placed_first : (n : ℕ) (x : A) (ys : List A) → key x < n → AtMost n ys → placed key x ys ≡ x ∷ ys
  placed_first n x [] lt h = refl
  placed_first n x (y ∷ ys) lt h =
      let g = h.0 in
      let less : key x < key y = omega (arith, lt, g) in
      ap (λ b. cond b (x ∷ y ∷ ys) (y ∷ placed key x ys)) (lt-ltb (key x) (key y) less)

  filter_placed : (p : A → Bool) (x : A) (ys : List A) → Ascends ys → filter p (placed key x ys) ≡ cond (p x) (placed key x (filter p ys)) (filter p ys)
  filter_placed p x [] h = refl
  filter_placed p x (y ∷ ys) h = by (nat_lt (key x) (key y)) refl (filter_placed p x ys h.1)
    where
      -- the greater one stays where it is
      front : (c : Bool) → placed key x (filter p (y ∷ ys)) ≡ x ∷ filter p (y ∷ ys) → cond c (x ∷ filter p (y ∷ ys)) (filter p (y ∷ ys)) ≡ cond c (placed key x (filter p (y ∷ ys))) (filter p (y ∷ ys))
      front true e = sym e
      front false e = refl

      past : nat_lt (key x) (key y) ≡ false → (c d : Bool) → cond c (y ∷ cond d (placed key x (filter p ys)) (filter p ys)) (cond d (placed key x (filter p ys)) (filter p ys)) ≡ cond d (placed key x (cond c (y ∷ filter p ys) (filter p ys))) (cond c (y ∷ filter p ys) (filter p ys))
      past e true true = sym (ap (λ b. cond b (x ∷ y ∷ filter p ys) (y ∷ placed key x (filter p ys))) e)
      past e true false = refl
      past e false d = refl

      by : (b : Bool) → nat_lt (key x) (key y) ≡ b → filter p (placed key x ys) ≡ cond (p x) (placed key x (filter p ys)) (filter p ys) → filter p (cond b (x ∷ y ∷ ys) (y ∷ placed key x ys)) ≡ cond (p x) (placed key x (filter p (y ∷ ys))) (filter p (y ∷ ys))
      by true e g =
          let least : AtMost (key y) (y ∷ ys) = (omega arith, h.0) in
          front (p x) (placed_first (key y) x (filter p (y ∷ ys)) (ltb-true (key x) (key y) e) (filter_least p (key y) (y ∷ ys) least))
      by false e g = ap (λ l. cond (p y) (y ∷ l) l) g ∙ past e (p y) (p x)

  ordered_filter : (p : A → Bool) (ys xs : List A) → Ascends ys → fold (λ l x. placed key x l) (filter p ys) (filter p xs) ≡ filter p (fold (λ l x. placed key x l) ys xs)
  ordered_filter p ys [] h = refl
  ordered_filter p ys (x ∷ xs) h =
      by (p x) refl (filter_placed p x ys h) (ordered_filter p (placed key x ys) xs (placed_ascends x ys h))
    where
      by : (b : Bool) → p x ≡ b → filter p (placed key x ys) ≡ cond (p x) (placed key x (filter p ys)) (filter p ys) → fold (λ l x. placed key x l) (filter p (placed key x ys)) (filter p xs) ≡ filter p (fold (λ l x. placed key x l) (placed key x ys) xs) → fold (λ l x. placed key x l) (filter p ys) (cond b (x ∷ filter p xs) (filter p xs)) ≡ filter p (fold (λ l x. placed key x l) (placed key x ys) xs)
      by true e f g =
          ap (λ l. fold (λ l x. placed key x l) l (filter p xs)) (sym (f ∙ ap (λ b. cond b (placed key x (filter p ys)) (filter p ys)) e)) ∙ g
      by false e f g =
          ap (λ l. fold (λ l x. placed key x l) l (filter p xs)) (sym (f ∙ ap (λ b. cond b (placed key x (filter p ys)) (filter p ys)) e)) ∙ g

  pub in_order_filter : (p : A → Bool) (xs : List A) → in_order key (filter p xs) ≡ filter p (in_order key xs)
  in_order_filter p xs = ordered_filter p [] xs tt

  in_order_push : (xs : List A) (x : A) → in_order key (xs ++ x ∷ []) ≡ placed key x (in_order key xs)
  in_order_push xs x = fold-append (λ l x. placed key x l) [] xs (x ∷ [])

  -- some go, and one comes
  pub in_order_then : (p : A → Bool) (xs : List A) (o : Option A) → in_order key (filter p xs ++ option_to_list o) ≡ placed_if key o (filter p (in_order key xs))
  in_order_then p xs None = ap (in_order key) (append-nil (filter p xs)) ∙ in_order_filter p xs
  in_order_then p xs (Some x) = in_order_push (filter p xs) x ∙ ap (placed key x) (in_order_filter p xs)

  fold_ascends : (ys xs : List A) → Ascends ys → Ascends (fold (λ l x. placed key x l) ys xs)
  fold_ascends ys [] h = h
  fold_ascends ys (x ∷ xs) h = fold_ascends (placed key x ys) xs (placed_ascends x ys h)

  pub in_order_ascends : (xs : List A) → Ascends (in_order key xs)
  in_order_ascends xs = fold_ascends [] xs tt

  -- all have the number n
  abbrev pub HaveAll : ℕ → List A → Type 0
  HaveAll n [] = Unit {0}
  HaveAll n (y ∷ ys) = (key y ≡ n) × HaveAll n ys

  none_less : (n : ℕ) → nat_lt n n ≡ false
  none_less n = by (nat_lt n n) refl
    where
      by : (b : Bool) → nat_lt n n ≡ b → b ≡ false
      by true e = absurd (let lt = ltb-true n n e in omega (arith, lt))
      by false e = refl

  placed_last : (n : ℕ) (x : A) (ys : List A) → key x ≡ n → HaveAll n ys → placed key x ys ≡ ys ++ x ∷ []
  placed_last n x [] e h = refl
  placed_last n x (y ∷ ys) e h =
      let test : nat_lt (key x) (key y) ≡ false = ap (λ k. nat_lt k (key y)) e ∙ ap (nat_lt n) h.0 ∙ none_less n in
      ap (λ b. cond b (x ∷ y ∷ ys) (y ∷ placed key x ys)) test ∙ ap (λ l. y ∷ l) (placed_last n x ys e h.1)

  all_push : (n : ℕ) (x : A) (ys : List A) → HaveAll n ys → key x ≡ n → HaveAll n (ys ++ x ∷ [])
  all_push n x [] h e = (e, tt)
  all_push n x (y ∷ ys) h e = (h.0, all_push n x ys h.1 e)

  fold_alike : (n : ℕ) (ys xs : List A) → HaveAll n ys → HaveAll n xs → fold (λ l x. placed key x l) ys xs ≡ ys ++ xs
  fold_alike n ys [] h g = sym (append-nil ys)
  fold_alike n ys (x ∷ xs) h g =
      ap (λ l. fold (λ l x. placed key x l) l xs) (placed_last n x ys g.0 h) ∙ fold_alike n (ys ++ x ∷ []) xs (all_push n x ys h g.0) g.1 ∙ append_assoc ys (x ∷ []) xs

  filter_alike : (n : ℕ) (xs : List A) → HaveAll n (filter (λ x. key x == n) xs)
  filter_alike n [] = tt
  filter_alike n (x ∷ xs) = by (key x == n) refl (filter_alike n xs)
    where
      by : (b : Bool) → (key x == n) ≡ b → HaveAll n (filter (λ x. key x == n) xs) → HaveAll n (cond b (x ∷ filter (λ x. key x == n) xs) (filter (λ x. key x == n) xs))
      by true e g = (eqb-true (key x) n e, g)
      by false e g = g

  -- those of one number stand in their order
  pub in_order_alike : (n : ℕ) (xs : List A) → filter (λ x. key x == n) (in_order key xs) ≡ filter (λ x. key x == n) xs
  in_order_alike n xs =
      sym (in_order_filter (λ x. key x == n) xs) ∙ fold_alike n [] (filter (λ x. key x == n) xs) tt (filter_alike n xs)
