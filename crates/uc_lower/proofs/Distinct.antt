-- Each initialiser is that of one field: fields of a class have names of their own.
use Rattle.std.proofs.Common.{◌≡◌, ℕ, ◌+◌, ◌≤◌, List, [], ◌∷◌, ◌++◌, Bool, true, false, ◌||◌, if◌then◌else◌, refl, ap, sym, ◌∙◌, arith, true≢false}
use Rattle.std.specs.List.{list_any}
use Rattle.std.specs.Cmp.Lexicographic.{bytes_decides}
use Rattle.uc_tree.specs.Names.{same_name}
use Rattle.uc_tree.specs.ExpressionSizes.{exprs_size}
use Rattle.uc_tree.specs.Sizes.{inits_size}
use Rattle.uc_tree.specs.Programs.{Init}

-- each name differs from those before it
abbrev pub Fresh : List (List ℕ) → List (List ℕ) → Type 0
Fresh seen [] = Unit {0}
Fresh seen (n ∷ ns) = (list_any (λ x. same_name x n) seen ≡ false) × Fresh (seen ++ n ∷ []) ns

-- what is counted at a name, once for each place where it stands
abbrev counted : List ℕ → ℕ → List (List ℕ) → ℕ
counted x k [] = 0
counted x k (n ∷ ns) = (if same_name x n then k else 0) + counted x k ns

pub any_last : (P : List ℕ → Bool) (xs : List (List ℕ)) (y : List ℕ) → list_any P xs ≡ true → list_any P (xs ++ y ∷ []) ≡ true
any_last P [] y e = cc
any_last P (x ∷ xs) y e = by_case (P x) (any_last P xs y) e
  where
    by_case : (b : Bool) → (list_any P xs ≡ true → list_any P (xs ++ y ∷ []) ≡ true) → (b || list_any P xs) ≡ true → (b || list_any P (xs ++ y ∷ [])) ≡ true
    by_case true more h = refl
    by_case false more h = more h

pub any_new : (P : List ℕ → Bool) (xs : List (List ℕ)) (y : List ℕ) → P y ≡ true → list_any P (xs ++ y ∷ []) ≡ true
any_new P [] y e = ap (λ t. t || false) e
any_new P (x ∷ xs) y e = by_case (P x) (any_new P xs y e)
  where
    by_case : (b : Bool) → list_any P (xs ++ y ∷ []) ≡ true → (b || list_any P (xs ++ y ∷ [])) ≡ true
    by_case true more = refl
    by_case false more = more

-- a name that was seen does not stand again
seen_none : (x : List ℕ) (k : ℕ) (seen ns : List (List ℕ)) → list_any (λ y. same_name y x) seen ≡ true → Fresh seen ns → counted x k ns ≡ 0
seen_none x k seen [] s f = refl
seen_none x k seen (n ∷ ns) s f =
    let rest = seen_none x k (seen ++ n ∷ []) ns (any_last (λ y. same_name y x) seen n s) f.1 in
    let first = by_case (same_name x n) refl in
    omega (arith, rest, first)
  where
    by_case : (b : Bool) → same_name x n ≡ b → (if b then k else 0) ≡ 0
    by_case true e =
        let same : x ≡ n = (bytes_decides x n).0 e in
        absurd (true≢false (sym (ap (λ z. list_any (λ y. same_name y z) seen) (sym same) ∙ s) ∙ f.0))
    by_case false e = refl

pub same_self : (x : List ℕ) → same_name x x ≡ true
same_self x = (bytes_decides x x).1 refl

pub counted_once : (x : List ℕ) (k : ℕ) (seen ns : List (List ℕ)) → Fresh seen ns → counted x k ns ≤ k
counted_once x k seen [] f = omega arith
counted_once x k seen (n ∷ ns) f = by_case (same_name x n) (counted_once x k (seen ++ n ∷ []) ns f.1) refl
  where
    by_case : (b : Bool) → counted x k ns ≤ k → same_name x n ≡ b → (if b then k else 0) + counted x k ns ≤ k
    by_case true rest e =
        let same : x ≡ n = (bytes_decides x n).0 e in
        let none = seen_none x k (seen ++ n ∷ []) ns (any_new (λ y. same_name y x) seen n (ap (λ z. same_name z x) (sym same) ∙ same_self x)) f.1 in
        omega (arith, none)
    by_case false rest e = omega (arith, rest)

-- the initialisers of these names

abbrev pub init_size : List Init → List ℕ → ℕ
init_size [] name = 0
init_size (x ∷ xs) name = if same_name x.name name then exprs_size x.args else init_size xs name

abbrev pub named_sizes : List Init → List (List ℕ) → ℕ
named_sizes is [] = 0
named_sizes is (n ∷ ns) = init_size is n + named_sizes is ns

pub none_named : (ns : List (List ℕ)) → named_sizes [] ns ≡ 0
none_named [] = refl
none_named (n ∷ ns) = let h = none_named ns in omega (arith, h)

first_named : (x : Init) (xs : List Init) (ns : List (List ℕ)) → named_sizes (x ∷ xs) ns ≤ counted x.name (exprs_size x.args) ns + named_sizes xs ns
first_named x xs [] = omega arith
first_named x xs (n ∷ ns) = let h = first_named x xs ns in let b = by_case (same_name x.name n) in omega (arith, h, b)
  where
    by_case : (b : Bool) → (if b then exprs_size x.args else init_size xs n) ≤ (if b then exprs_size x.args else 0) + init_size xs n
    by_case true = omega arith
    by_case false = omega arith

pub inits_few : (is : List Init) (ns : List (List ℕ)) → Fresh [] ns → named_sizes is ns ≤ inits_size is
inits_few [] ns f = let e = none_named ns in omega (arith, e)
inits_few (x ∷ xs) ns f =
    let a = first_named x xs ns in
    let b = counted_once x.name (exprs_size x.args) [] ns f in
    let r = inits_few xs ns f in
    omega (arith, a, b, r)
