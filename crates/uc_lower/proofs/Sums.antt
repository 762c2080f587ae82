-- Sums over the classes of a program, by their places.
use Rattle.std.proofs.Common.{◌≡◌, ◌≢◌, ℕ, zero, suc, ◌+◌, ◌≤◌, ◌<◌, List, [], ◌∷◌, ◌++◌, Bool, true, false, not, ◌&&◌, Some, if◌then◌else◌, length, nat_eq, nat_le, refl, ap, sym, subst, ◌∙◌, arith, ◌⊎◌, inl, inr}
use Rattle.std.specs.Prelude.{slice_get}
use Rattle.std.proofs.lemmas.Bool.{cases_eq, cases_lt, ne_eqb, le-leb, lt-leb}
use Rattle.uc_tree.specs.Programs.{Class, Program}
use Rattle.uc_tree.specs.Cells.{classes_of}
use Rattle.uc_tree.specs.Numbering.{is_event}
use Rattle.uc_tree.specs.Objects.{Unwritten, class_height, unwritten_at, unwritten_of, unwritten_of_height, unwritten_up_to}

abbrev pub sum : (Class → ℕ → ℕ) → List Class → ℕ → ℕ
sum f [] i = 0
sum f (c ∷ cs) i = f c i + sum f cs (i + 1)

pub sum_le : (f g : Class → ℕ → ℕ) → ((c : Class) (i : ℕ) → f c i ≤ g c i) → (cs : List Class) (i : ℕ) → sum f cs i ≤ sum g cs i
sum_le f g h [] i = omega arith
sum_le f g h (c ∷ cs) i = let a = h c i in let b = sum_le f g h cs (i + 1) in omega (arith, a, b)

pub sum_add : (f g : Class → ℕ → ℕ) (cs : List Class) (i : ℕ) → sum f cs i + sum g cs i ≡ sum (λ c i. f c i + g c i) cs i
sum_add f g [] i = refl
sum_add f g (c ∷ cs) i = let a = sum_add f g cs (i + 1) in omega (arith, a)

-- one of them is more by x
pub sum_more : (f g : Class → ℕ → ℕ) (x : ℕ) → ((c : Class) (i : ℕ) → f c i ≤ g c i) → (cs : List Class) (first j : ℕ) (c : Class) → slice_get cs j ≡ Some c → f c (first + j) + x ≤ g c (first + j) → sum f cs first + x ≤ sum g cs first
sum_more f g x h [] first j c e l = cc
sum_more f g x h (y ∷ ys) first zero c e l =
    let same : y ≡ c = cc in
    let z : first + 0 ≡ first = omega arith in
    let here : f y first + x ≤ g y first = subst (λ (k : Class). f k first + x ≤ g k first) (sym same) (subst (λ n. f c n + x ≤ g c n) z l) in
    let rest = sum_le f g h ys (first + 1) in
    omega (arith, here, rest)
sum_more f g x h (y ∷ ys) first (suc j) c e l =
    let z : first + suc j ≡ first + 1 + j = omega arith in
    let here = h y first in
    let rest = sum_more f g x h ys (first + 1) j c e (subst (λ n. f c n + x ≤ g c n) z l) in
    omega (arith, here, rest)

-- those that nobody wrote, each with a weight

module _ (p : Program) (w : Unwritten → ℕ) where
  abbrev pub weight : List Unwritten → ℕ
  weight [] = 0
  weight (u ∷ us) = w u + weight us

  pub weight_join : (xs ys : List Unwritten) → weight (xs ++ ys) ≡ weight xs + weight ys
  weight_join [] ys = omega arith
  weight_join (x ∷ xs) ys = let h = weight_join xs ys in omega (arith, h)

  abbrev at_height : ℕ → Class → ℕ → ℕ
  at_height h c i = weight (if not (is_event c.kind) && nat_eq (class_height p i) h then unwritten_at p i else [])

  height_weight : (h : ℕ) (cs : List Class) (i : ℕ) → weight (unwritten_of_height p h cs i) ≡ sum (at_height h) cs i
  height_weight h [] i = refl
  height_weight h (c ∷ cs) i =
      weight_join (if not (is_event c.kind) && nat_eq (class_height p i) h then unwritten_at p i else []) (unwritten_of_height p h cs (i + 1))
      ∙ ap (λ n. at_height h c i + n) (height_weight h cs (i + 1))

  -- those of the classes that are at most so deep; an event has none
  abbrev up_to : ℕ → Class → ℕ → ℕ
  up_to h c i = if is_event c.kind then 0 else (if nat_le (class_height p i) h then weight (unwritten_at p i) else 0)

  abbrev pub class_weight : Class → ℕ → ℕ
  class_weight c i = if is_event c.kind then 0 else weight (unwritten_at p i)

  le_case : (n : ℕ) (t : Bool) → (if t then n else 0) ≤ n
  le_case n true = omega arith
  le_case n false = omega arith

  own_case : (b : Bool) (us : List Unwritten) → b ≡ false → weight (if b then us else []) ≡ 0
  own_case b us q = ap (λ (t : Bool). weight (if t then us else [])) q

  own_few : (b : Bool) (us : List Unwritten) → weight (if b then us else []) ≤ weight us
  own_few true us = omega arith
  own_few false us = omega arith

  first_le : (k : ℕ) (us : List Unwritten) (e : Bool) → (k ≡ 0) ⊎ (k ≢ 0) → weight (if not e && nat_eq k 0 then us else []) ≤ (if e then 0 else (if nat_le k 0 then weight us else 0))
  first_le k us true s = omega arith
  first_le k us false (inl q) = let a = own_few (nat_eq k 0) us in let b : (if nat_le k 0 then weight us else 0) ≡ weight us = ap (λ n. if nat_le n 0 then weight us else 0) q in omega (arith, a, b)
  first_le k us false (inr n) = let a = own_case (nat_eq k 0) us (ne_eqb k 0 n) in omega (arith, a)

  next_le : (k h : ℕ) (us : List Unwritten) (e : Bool) → (k ≡ suc h) ⊎ (k ≢ suc h) → weight (if not e && nat_eq k (suc h) then us else []) + (if e then 0 else (if nat_le k h then weight us else 0)) ≤ (if e then 0 else (if nat_le k (suc h) then weight us else 0))
  next_le k h us true s = omega arith
  next_le k h us false (inl q) =
      let a = own_few (nat_eq k (suc h)) us in
      let b : (if nat_le k (suc h) then weight us else 0) ≡ weight us = ap (λ (t : Bool). if t then weight us else 0) (le-leb k (suc h) (omega (arith, q))) in
      let d : (if nat_le k h then weight us else 0) ≡ 0 = ap (λ (t : Bool). if t then weight us else 0) (lt-leb k h (omega (arith, q))) in
      omega (arith, a, b, d)
  next_le k h us false (inr n) = let a = own_case (nat_eq k (suc h)) us (ne_eqb k (suc h) n) in let b = more_le k h us (cases_lt h k) in omega (arith, a, b)
    where
      more_le : (k h : ℕ) (us : List Unwritten) → (h < k) ⊎ (k ≤ h) → (if nat_le k h then weight us else 0) ≤ (if nat_le k (suc h) then weight us else 0)
      more_le k h us (inl l) = let d : (if nat_le k h then weight us else 0) ≡ 0 = ap (λ (t : Bool). if t then weight us else 0) (lt-leb k h l) in omega (arith, d)
      more_le k h us (inr l) = let b : (if nat_le k (suc h) then weight us else 0) ≡ weight us = ap (λ (t : Bool). if t then weight us else 0) (le-leb k (suc h) (omega (arith, l))) in let a = le_case (weight us) (nat_le k h) in omega (arith, a, b)

  last_le : (e t : Bool) (n : ℕ) → (if e then 0 else (if t then n else 0)) ≤ (if e then 0 else n)
  last_le true t n = omega arith
  last_le false t n = le_case n t

  up_weight : (h : ℕ) → weight (unwritten_up_to p h) ≤ sum (up_to h) (classes_of p.items) 0
  up_weight zero =
      let a = height_weight 0 (classes_of p.items) 0 in
      let b = sum_le (at_height 0) (up_to 0) (λ c i. first_le (class_height p i) (unwritten_at p i) (is_event c.kind) (cases_eq (class_height p i) 0)) (classes_of p.items) 0 in
      omega (arith, a, b)
  up_weight (suc h) =
      let j = weight_join (unwritten_of_height p (suc h) (classes_of p.items) 0) (unwritten_up_to p h) in
      let a = height_weight (suc h) (classes_of p.items) 0 in
      let r = up_weight h in
      let s = sum_add (at_height (suc h)) (up_to h) (classes_of p.items) 0 in
      let b = sum_le (λ c i. at_height (suc h) c i + up_to h c i) (up_to (suc h)) (λ c i. next_le (class_height p i) h (unwritten_at p i) (is_event c.kind) (cases_eq (class_height p i) (suc h))) (classes_of p.items) 0 in
      omega (arith, j, a, r, s, b)

  pub all_weight : weight (unwritten_of p) ≤ sum class_weight (classes_of p.items) 0
  all_weight =
      let a = up_weight (length (classes_of p.items)) in
      let b = sum_le (up_to (length (classes_of p.items))) class_weight (λ c i. last_le (is_event c.kind) (nat_le (class_height p i) (length (classes_of p.items))) (weight (unwritten_at p i))) (classes_of p.items) 0 in
      omega (arith, a, b)

pub sum_le_at : (f g : Class → ℕ → ℕ) (cs : List Class) (first : ℕ) → ((j : ℕ) (c : Class) → slice_get cs j ≡ Some c → f c (first + j) ≤ g c (first + j)) → sum f cs first ≤ sum g cs first
sum_le_at f g [] first h = omega arith
sum_le_at f g (c ∷ cs) first h =
    let z : first + 0 ≡ first = omega arith in
    let here : f c first ≤ g c first = subst (λ n. f c n ≤ g c n) z (h 0 c refl) in
    let rest = sum_le_at f g cs (first + 1) (λ j x e. let y : first + suc j ≡ first + 1 + j = omega arith in subst (λ n. f x n ≤ g x n) y (h (suc j) x e)) in
    omega (arith, here, rest)
