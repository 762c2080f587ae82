-- Places in lists, and tests over them.
use Rattle.std.proofs.Common.{◌≡◌, ℕ, zero, suc, ◌+◌, ◌<◌, ◌++◌, ◌⊎◌, inl, inr, List, [], ◌∷◌, length, Option, Some, None, Bool, true, false, refl, sym, ap, ◌∙◌, arith, map}
use Rattle.std.specs.Prelude.{◌&&◌, ◌||◌, not, slice_get, take, is_some, nat_eq}
use Rattle.std.specs.List.{list_any, list_all}
use Rattle.std.proofs.lemmas.Bool.{eqb-true}
use Rattle.uc_sound.proofs.Ties.{some_same, none_some, false_true}

pub some_is : {A : Type 0} (o : Option A) → is_some o ≡ true → (x : A) × (o ≡ Some x)
some_is None h = false_true h
some_is (Some x) h = (x, refl)

pub both_are : (a b : Bool) → a ≡ true → b ≡ true → (a && b) ≡ true
both_are true b h k = k
both_are false b h k = false_true h

pub left_is : (a b : Bool) → (a && b) ≡ true → a ≡ true
left_is true b h = refl
left_is false b h = h

pub right_is : (a b : Bool) → (a && b) ≡ true → b ≡ true
right_is true b h = h
right_is false b h = false_true h

pub or_left : (a b : Bool) → a ≡ true → (a || b) ≡ true
or_left true b h = refl
or_left false b h = false_true h

pub or_right : (a b : Bool) → b ≡ true → (a || b) ≡ true
or_right true b h = refl
or_right false b h = h

pub not_is : (b : Bool) → not b ≡ true → b ≡ false
not_is true h = sym h
not_is false h = refl

pub not_not : (b : Bool) → not b ≡ false → b ≡ true
not_not true h = refl
not_not false h = sym h

-- of two tests one holds, and not the first
pub not_either : {B : Type 0} (a b : Bool) → a ≡ true → not (a || b) ≡ true → B
not_either true b h k = false_true k
not_either false b h k = false_true h

pub not_both : {B : Type 0} (a : Bool) → a ≡ true → not a ≡ true → B
not_both true h k = false_true k
not_both false h k = false_true h

pub implied : (a b : Bool) → a ≡ true → (not a || b) ≡ true → b ≡ true
implied true b h k = k
implied false b h k = false_true h

pub case_of : (b : Bool) → (b ≡ true) ⊎ (b ≡ false)
case_of true = inl refl
case_of false = inr refl

pub next_is_not : (n : ℕ) → nat_eq (suc n) 0 ≡ false
next_is_not n = by (case_of (nat_eq (suc n) 0))
  where
    by : (nat_eq (suc n) 0 ≡ true) ⊎ (nat_eq (suc n) 0 ≡ false) → nat_eq (suc n) 0 ≡ false
    by (inl e) = let q = eqb-true (suc n) 0 e in let b : ⊥ = omega (arith, q) in absurd b
    by (inr e) = e

pub in_either : {A : Type 0} (xs ys : List A) (n : ℕ) (x : A) → slice_get (xs ++ ys) n ≡ Some x → (slice_get xs n ≡ Some x) ⊎ ((m : ℕ) × (slice_get ys m ≡ Some x))
in_either [] ys n x h = inr (n, h)
in_either (z ∷ xs) ys zero x h = inl h
in_either (z ∷ xs) ys (suc n) x h = in_either xs ys n x h

-- a place in the first list, or behind it
pub in_left : {A : Type 0} (xs ys : List A) (n : ℕ) (x : A) → slice_get xs n ≡ Some x → slice_get (xs ++ ys) n ≡ Some x
in_left [] ys n x h = none_some h
in_left (z ∷ xs) ys zero x h = h
in_left (z ∷ xs) ys (suc n) x h = in_left xs ys n x h

pub in_right : {A : Type 0} (xs ys : List A) (m : ℕ) (x : A) → slice_get ys m ≡ Some x → (n : ℕ) × (slice_get (xs ++ ys) n ≡ Some x)
in_right [] ys m x h = (m, h)
in_right (z ∷ xs) ys m x h = let r = in_right xs ys m x h in (suc r.0, r.1)

pub get_right : {A : Type 0} (xs ys : List A) (m n : ℕ) → n ≡ length xs + m → slice_get (xs ++ ys) n ≡ slice_get ys m
get_right [] ys m n e = ap (slice_get ys) (let q : n ≡ m = omega (arith, e) in q)
get_right (z ∷ xs) ys m zero e = let b : ⊥ = omega (arith, e) in absurd b
get_right (z ∷ xs) ys m (suc n) e = get_right xs ys m n (omega (arith, e))

pub get_left : {A : Type 0} (xs ys : List A) (n : ℕ) → n < length xs → slice_get (xs ++ ys) n ≡ slice_get xs n
get_left [] ys n l = let b : ⊥ = omega (arith, l) in absurd b
get_left (z ∷ xs) ys zero l = refl
get_left (z ∷ xs) ys (suc n) l = get_left xs ys n (omega (arith, l))

pub within : {A : Type 0} (xs : List A) (n : ℕ) (x : A) → slice_get xs n ≡ Some x → n < length xs
within [] n x h = none_some h
within (z ∷ xs) zero x h = omega arith
within (z ∷ xs) (suc n) x h = let l = within xs n x h in omega (arith, l)

-- what a test finds, and where
pub any_at : {A : Type 0} (f : A → Bool) (xs : List A) → list_any f xs ≡ true → (n : ℕ) × (x : A) × (slice_get xs n ≡ Some x) × (f x ≡ true)
any_at f [] h = false_true h
any_at {A} f (x ∷ xs) h = by (f x) refl (any_at f xs) h
  where
    by : (b : Bool) → f x ≡ b → (list_any f xs ≡ true → (n : ℕ) × (y : A) × (slice_get xs n ≡ Some y) × (f y ≡ true)) → (b || list_any f xs) ≡ true → (n : ℕ) × (y : A) × (slice_get (x ∷ xs) n ≡ Some y) × (f y ≡ true)
    by true e ih h = (0, x, refl, e)
    by false e ih h = let r = ih h in (suc r.0, r.1, r.2, r.3)

pub any_from : {A : Type 0} (f : A → Bool) (xs : List A) (n : ℕ) (x : A) → slice_get xs n ≡ Some x → f x ≡ true → list_any f xs ≡ true
any_from f [] n x e h = none_some e
any_from f (y ∷ xs) zero x e h = or_left (f y) (list_any f xs) (ap f (some_same e) ∙ h)
any_from f (y ∷ xs) (suc n) x e h = or_right (f y) (list_any f xs) (any_from f xs n x e h)

pub all_from : {A : Type 0} (f : A → Bool) (xs : List A) (n : ℕ) (x : A) → list_all f xs ≡ true → slice_get xs n ≡ Some x → f x ≡ true
all_from f [] n x h e = none_some e
all_from f (y ∷ xs) zero x h e = ap f (sym (some_same e)) ∙ left_is (f y) (list_all f xs) h
all_from f (y ∷ xs) (suc n) x h e = all_from f xs n x (right_is (f y) (list_all f xs) h) e

-- of those before a place
pub get_take : {A : Type 0} (xs : List A) (i n : ℕ) (x : A) → n < i → slice_get xs n ≡ Some x → slice_get (take i xs) n ≡ Some x
get_take [] i n x l e = none_some e
get_take (y ∷ xs) zero n x l e = let b : ⊥ = omega (arith, l) in absurd b
get_take (y ∷ xs) (suc i) zero x l e = e
get_take (y ∷ xs) (suc i) (suc n) x l e = get_take xs i n x (omega (arith, l)) e

pub map_at : {A B : Type 0} (f : A → B) (xs : List A) (n : ℕ) (x : A) → slice_get xs n ≡ Some x → slice_get (map f xs) n ≡ Some (f x)
map_at f [] n x e = none_some e
map_at f (y ∷ xs) zero x e = ap (λ z. Some (f z)) (some_same e)
map_at f (y ∷ xs) (suc n) x e = map_at f xs n x e

pub data Order (i j : ℕ) : Type 0 where
  before : i < j → Order i j
  same : i ≡ j → Order i j
  behind : j < i → Order i j

pub order : (i j : ℕ) → Order i j
order zero zero = same refl
order zero (suc j) = before (omega arith)
order (suc i) zero = behind (omega arith)
order (suc i) (suc j) = by (order i j)
  where
    by : Order i j → Order (suc i) (suc j)
    by (before l) = before (omega (arith, l))
    by (same e) = same (ap suc e)
    by (behind l) = behind (omega (arith, l))
