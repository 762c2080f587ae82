-- The first names of a list have the numbers that there are.
use Rattle.std.proofs.Common.{◌≡◌, ℕ, zero, suc, ◌+◌, ◌≤◌, ◌<◌, List, [], ◌∷◌, ◌++◌, true, false, Option, Some, None, if◌then◌else◌, nat_le, length, take, drop, map, get_or, length-append, refl, ap, sym, ◌∙◌, arith, ◌⊎◌, inl, inr}
use Rattle.std.specs.Prelude.{option_and_then}
use Rattle.std.specs.List.{list_any}
use Rattle.std.proofs.lemmas.Bool.{cases_lt}
use Rattle.std.proofs.lemmas.Bool.Decides.{nat_tests}
use Rattle.uc_tree.specs.declared.limits.TheConstants.{MEMBERS}
use Rattle.uc_tree.specs.Names.{same_name}
use Rattle.uc_tree.specs.Programs.{Member, Class}
use Rattle.uc_tree.specs.Numbering.{place_from, at_most, with_name, exclusive_name, exclusive_names, mutex_members, member_number}

cut_whole : {A : Type 0} (k : ℕ) (xs : List A) → length xs ≤ k → take k xs ≡ xs
cut_whole zero [] h = refl
cut_whole zero (x ∷ xs) h = absurd (omega arith)
cut_whole (suc k) [] h = refl
cut_whole (suc k) (x ∷ xs) h = ap (λ l. x ∷ l) (cut_whole k xs (omega arith))

take_none : {A : Type 0} (ys : List A) → take 0 ys ≡ []
take_none [] = refl
take_none (y ∷ ys) = refl

cut_front : {A : Type 0} (k : ℕ) (xs ys : List A) → k ≤ length xs → take k (xs ++ ys) ≡ take k xs
cut_front zero [] ys h = take_none ys
cut_front zero (x ∷ xs) ys h = refl
cut_front (suc k) [] ys h = absurd (omega arith)
cut_front (suc k) (x ∷ xs) ys h = ap (λ l. x ∷ l) (cut_front k xs ys (omega arith))

cut_twice : {A : Type 0} (k : ℕ) (xs : List A) → take k (take k xs) ≡ take k xs
cut_twice zero [] = refl
cut_twice zero (x ∷ xs) = refl
cut_twice (suc k) [] = refl
cut_twice (suc k) (x ∷ xs) = ap (λ l. x ∷ l) (cut_twice k xs)

cut_length : {A : Type 0} (k : ℕ) (xs : List A) → k ≤ length xs → length (take k xs) ≡ k
cut_length zero [] h = refl
cut_length zero (x ∷ xs) h = refl
cut_length (suc k) [] h = absurd (omega arith)
cut_length (suc k) (x ∷ xs) h = omega (arith, cut_length k xs (omega arith))

pub cut_fits : {A : Type 0} (k : ℕ) (xs : List A) → length (take k xs) ≤ k
cut_fits zero [] = omega arith
cut_fits zero (x ∷ xs) = omega arith
cut_fits (suc k) [] = omega arith
cut_fits (suc k) (x ∷ xs) = omega (arith, cut_fits k xs)

-- what comes behind so many names changes the first ones not

with_longer : (o : Option (List ℕ)) (ns : List (List ℕ)) → length ns ≤ length (with_name o ns)
with_longer None ns = omega arith
with_longer (Some n) ns =
    elim (list_any (λ m. same_name m n) ns) as (λ b. length ns ≤ length (if b then ns else ns ++ n ∷ [])) [
      | true ↦ omega arith
      | false ↦ omega (arith, length-append {A = List ℕ})
    ]

with_front : (k : ℕ) (o : Option (List ℕ)) (ns : List (List ℕ)) → k ≤ length ns → take k (with_name o ns) ≡ take k ns
with_front k None ns h = refl
with_front k (Some n) ns h =
    elim (list_any (λ m. same_name m n) ns) as (λ b. take k (if b then ns else ns ++ n ∷ []) ≡ take k ns) [
      | true ↦ refl
      | false ↦ cut_front k ns (n ∷ []) h
    ]

names_front : (k : ℕ) (ns : List (List ℕ)) (ms : List Member) → k ≤ length ns → take k (exclusive_names ns ms) ≡ take k ns
names_front k ns [] h = refl
names_front k ns (m ∷ ms) h = names_front k (with_name (exclusive_name m) ns) ms (omega (arith, with_longer (exclusive_name m) ns)) ∙ with_front k (exclusive_name m) ns h

cut_case : (k : ℕ) (ns : List (List ℕ)) (ms : List Member) → (length ns < k) ⊎ (k ≤ length ns) → take k (exclusive_names (take k ns) ms) ≡ take k (exclusive_names ns ms)
cut_case k ns ms (inl few) = ap (λ l. take k (exclusive_names l ms)) (cut_whole k ns (omega arith))
cut_case k ns ms (inr many) = names_front k (take k ns) ms (omega (arith, cut_length k ns many)) ∙ cut_twice k ns ∙ sym (names_front k ns ms many)

pub cut_names : (k : ℕ) (ns : List (List ℕ)) (ms : List Member) → take k (exclusive_names (take k ns) ms) ≡ take k (exclusive_names ns ms)
cut_names k ns ms = cut_case k ns ms (cases_lt (length ns) k)

pub cut_all : (k : ℕ) (ns : List (List ℕ)) → length ns ≤ k → take k ns ≡ ns
cut_all k ns h = cut_whole k ns h

-- a name that is pushed, or is not, after so many

pub kept_none : (o : Option (List ℕ)) (ns : List (List ℕ)) → o ≡ None → length ns ≤ MEMBERS → ns ≡ take MEMBERS (with_name o ns)
kept_none o ns e h = rw e (sym (cut_whole MEMBERS ns h))

pub kept_full : (o : Option (List ℕ)) (ns : List (List ℕ)) (n : List ℕ) → o ≡ Some n → length ns ≡ MEMBERS → ns ≡ take MEMBERS (with_name o ns)
kept_full o ns n e h = rw e (sym (with_front MEMBERS (Some n) ns (omega arith) ∙ cut_whole MEMBERS ns (omega arith)))

pub kept_listed : (o : Option (List ℕ)) (ns : List (List ℕ)) (n : List ℕ) → o ≡ Some n → list_any (λ m. same_name m n) ns ≡ true → length ns ≤ MEMBERS → ns ≡ take MEMBERS (with_name o ns)
kept_listed o ns n e t h = rw (e, t) (sym (cut_whole MEMBERS ns h))

pub kept_new : (o : Option (List ℕ)) (ns : List (List ℕ)) (n : List ℕ) → o ≡ Some n → list_any (λ m. same_name m n) ns ≡ false → length ns < MEMBERS → ns ++ n ∷ [] ≡ take MEMBERS (with_name o ns)
kept_new o ns n e t h = rw (e, t) (sym (cut_whole MEMBERS (ns ++ n ∷ []) (omega (arith, length-append {A = List ℕ}))))

pub map_length : {A B : Type 0} (f : A → B) (xs : List A) → length (map f xs) ≡ length xs
map_length f [] = refl
map_length f (x ∷ xs) = omega (arith, map_length f xs)

pub map_push : {A B : Type 0} (f : A → B) (xs : List A) (x : A) → map f (xs ++ x ∷ []) ≡ map f xs ++ f x ∷ []
map_push f [] x = refl
map_push f (y ∷ ys) x = ap (λ l. f y ∷ l) (map_push f ys x)

drop_here : {A : Type 0} (xs : List A) (i : ℕ) (x : A) → i < length xs → x ≡ get_or xs i x → drop i xs ≡ x ∷ drop (suc i) xs
drop_here [] i x h e = absurd (omega arith)
drop_here (y ∷ ys) zero x h e = ap (λ z. z ∷ ys) (sym e)
drop_here (y ∷ ys) (suc i) x h e = drop_here ys i x (omega arith) e

pub drop_at : {A : Type 0} (xs : List A) (i : ℕ) (x : A) → i < length xs → x ≡ get_or xs i x → drop i xs ≡ x ∷ drop (i + 1) xs
drop_at xs i x h e = let n : i + 1 ≡ suc i = omega arith in rw n (drop_here xs i x h e)

pub drop_end : {A : Type 0} (xs : List A) (i : ℕ) → length xs ≤ i → drop i xs ≡ []
drop_end [] zero h = refl
drop_end [] (suc i) h = refl
drop_end (x ∷ xs) zero h = absurd (omega arith)
drop_end (x ∷ xs) (suc i) h = drop_end xs i (omega arith)

-- numbers past the last are none

le_false : (n last : ℕ) → last < n → nat_le n last ≡ false
le_false n last h = grind (arith, nat_tests)

le_true : (n last : ℕ) → n ≤ last → nat_le n last ≡ true
le_true n last h = grind (arith, nat_tests)

pub at_most_none : (last n : ℕ) → last < n → at_most last n ≡ None
at_most_none last n h = ap (λ b. if b then Some n else None) (le_false n last h)

past_last : (last i : ℕ) (ns : List (List ℕ)) (name : List ℕ) → last < i → option_and_then (at_most last) (place_from i ns name) ≡ None
past_last last i [] name h = refl
past_last last i (n ∷ ns) name h =
    elim (same_name n name) as (λ b. option_and_then (at_most last) (if b then Some i else place_from (i + 1) ns name) ≡ None) [
      | true ↦ at_most_none last i h
      | false ↦ past_last last (i + 1) ns name (omega arith)
    ]

numbered : (k last i : ℕ) (ns : List (List ℕ)) (name : List ℕ) → i + k ≡ last + 1 → place_from i (take k ns) name ≡ option_and_then (at_most last) (place_from i ns name)
numbered zero last i [] name e = refl
numbered zero last i (n ∷ ns) name e = sym (past_last last i (n ∷ ns) name (omega arith))
numbered (suc k) last i [] name e = refl
numbered (suc k) last i (n ∷ ns) name e =
    elim (same_name n name) as (λ b. (if b then Some i else place_from (i + 1) (take k ns) name) ≡ option_and_then (at_most last) (if b then Some i else place_from (i + 1) ns name)) [
      | true ↦ sym (ap (λ b. if b then Some i else None) (le_true i last (omega arith)))
      | false ↦ numbered k last (i + 1) ns name (omega arith)
    ]

pub member_numbered : (c : Class) (name : List ℕ) → place_from 1 (take MEMBERS (mutex_members c)) name ≡ member_number c name
member_numbered c name = numbered MEMBERS MEMBERS 1 (mutex_members c) name refl
