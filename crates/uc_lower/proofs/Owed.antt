-- What written constructors and destructors cost by their classes, of which each has at most one of each.
use Rattle.std.proofs.Common.{◌≡◌, ℕ, suc, ◌+◌, ◌≤◌, List, [], ◌∷◌, ◌++◌, Bool, true, false, ◌&&◌, ◌||◌, Option, Some, None, if◌then◌else◌, refl, ap, sym, subst, ◌∙◌, arith, append_assoc, true≢false}
use Rattle.std.specs.List.{list_any}
use Rattle.std.proofs.lemmas.Bool.{eq-eqb}
use Rattle.std.proofs.lemmas.List.{append-nil}
use Rattle.uc_tree.specs.declared.kinds.Role.{Role}
use Rattle.uc_tree.specs.declared.kinds.Role.TheVariants as role
use Rattle.uc_tree.specs.Programs.{Class, Program}
use Rattle.uc_tree.specs.Cells.{classes_of}
use Rattle.uc_tree.specs.Numbering.{Defined, is_event, is_plain}
use Rattle.uc_tree.specs.Objects.{class_at, has_role, number_at, place_of, role_from, same_role}
use Rattle.uc_resolve.specs.Resolve.{class_by, place_by}
use Rattle.uc_lower.proofs.Placed.{belongs, belongs_has, is_place}
use Rattle.uc_lower.proofs.Sums.{sum, sum_le, sum_more}

any_join : (P : Defined → Bool) (xs : List Defined) (y : Defined) → list_any P (xs ++ y ∷ []) ≡ (list_any P xs || P y)
any_join P [] y = by_case (P y)
  where
    by_case : (b : Bool) → (b || false) ≡ (false || b)
    by_case true = refl
    by_case false = refl
any_join P (x ∷ xs) y = by_case (P x) (any_join P xs y)
  where
    by_case : (b : Bool) → list_any P (xs ++ y ∷ []) ≡ (list_any P xs || P y) → (b || list_any P (xs ++ y ∷ [])) ≡ ((b || list_any P xs) || P y)
    by_case true h = refl
    by_case false h = h

module _ (p : Program) where
  -- a class belongs to its number, and no routine before this one is of the same role in the same class
  pub record IsApart (seen : List Defined) (d : Defined) : Type 0 where
    pub at : (i : ℕ) → place_of p d.number ≡ Some i → number_at p i ≡ d.number
    pub alone : (i : ℕ) → place_by p d ≡ Some i → is_plain d.routine.sig.role ≡ false → list_any (belongs p i d.routine.sig.role) seen ≡ false

  abbrev pub AreApart : List Defined → List Defined → Type 0
  AreApart seen [] = Unit {0}
  AreApart seen (d ∷ ds) = IsApart seen d × AreApart (seen ++ d ∷ []) ds

  -- where nobody builds, or destroys, the objects of a class by its number, nobody does by its place
  pub none_written : (i : ℕ) (c : Class) (r : Role) → class_at p i ≡ Some c → is_event c.kind ≡ false → (seen ds : List Defined) (s : ℕ) → AreApart seen ds → role_from ds s (number_at p i) r ≡ None → list_any (belongs p i r) ds ≡ false
  none_written i c r e v seen [] s a n = refl
  none_written i c r e v seen (d ∷ ds) s a n = by_case (belongs p i r d) refl (has_role (number_at p i) r d) refl n (none_written i c r e v (seen ++ d ∷ []) ds (suc s) a.1)
    where
      by_case : (b : Bool) → belongs p i r d ≡ b → (h : Bool) → has_role (number_at p i) r d ≡ h → (if h then Some s else role_from ds (suc s) (number_at p i) r) ≡ None → (role_from ds (suc s) (number_at p i) r ≡ None → list_any (belongs p i r) ds ≡ false) → (b || list_any (belongs p i r) ds) ≡ false
      by_case b q true h n more = cc
      by_case true q false h n more = absurd (true≢false (sym (belongs_has p i c r d e v a.0.at q) ∙ h))
      by_case false q false h n more = more n

  module _ (cost : Role → Option Class → ℕ) (plain : (o : Option Class) → cost role.Plain o ≡ 0) (none : (r : Role) → cost r None ≡ 0) where
    abbrev pub owed : Defined → ℕ
    owed d = cost d.routine.sig.role (class_by p (place_by p d))

    abbrev pub all_owed : List Defined → ℕ
    all_owed [] = 0
    all_owed (d ∷ ds) = owed d + all_owed ds

    abbrev pub one : List Defined → Role → Class → ℕ → ℕ
    one ds r c i = if list_any (belongs p i r) ds then cost r (Some c) else 0

    abbrev pub paid : List Defined → Class → ℕ → ℕ
    paid ds c i = one ds role.Constructor c i + one ds role.Destructor c i

    some_more : (a b : Bool) (k : ℕ) → (if a then k else 0) ≤ (if a || b then k else 0)
    some_more true b k = omega arith
    some_more false true k = omega arith
    some_more false false k = omega arith

    one_is : (seen : List Defined) (d : Defined) (r : Role) (c : Class) (i : ℕ) → one (seen ++ d ∷ []) r c i ≡ (if list_any (belongs p i r) seen || belongs p i r d then cost r (Some c) else 0)
    one_is seen d r c i = ap (λ (t : Bool). if t then cost r (Some c) else 0) (any_join (belongs p i r) seen d)

    one_more : (seen : List Defined) (d : Defined) (r : Role) (c : Class) (i : ℕ) → one seen r c i ≤ one (seen ++ d ∷ []) r c i
    one_more seen d r c i =
        let e = one_is seen d r c i in
        let h = some_more (list_any (belongs p i r) seen) (belongs p i r d) (cost r (Some c)) in
        omega (arith, e, h)

    paid_more : (seen : List Defined) (d : Defined) (c : Class) (i : ℕ) → paid seen c i ≤ paid (seen ++ d ∷ []) c i
    paid_more seen d c i = let a = one_more seen d role.Constructor c i in let b = one_more seen d role.Destructor c i in omega (arith, a, b)

    -- the class of one routine more pays for it
    one_here : (seen : List Defined) (d : Defined) (r : Role) (c : Class) (i : ℕ) → place_by p d ≡ Some i → same_role r d.routine.sig.role ≡ true → list_any (belongs p i r) seen ≡ false → one seen r c i + cost r (Some c) ≤ one (seen ++ d ∷ []) r c i
    one_here seen d r c i e s n =
        let old : one seen r c i ≡ 0 = ap (λ (t : Bool). if t then cost r (Some c) else 0) n in
        let is : belongs p i r d ≡ true = ap (λ t. t && same_role r d.routine.sig.role) (ap (λ o. is_place o i) e ∙ eq-eqb i i refl) ∙ s in
        let new : one (seen ++ d ∷ []) r c i ≡ cost r (Some c) = one_is seen d r c i ∙ ap (λ (t : Bool). if t || belongs p i r d then cost r (Some c) else 0) n ∙ ap (λ (t : Bool). if t then cost r (Some c) else 0) is in
        omega (arith, old, new)

    paid_here : (seen : List Defined) (d : Defined) (r : Role) (c : Class) (i : ℕ) → d.routine.sig.role ≡ r → place_by p d ≡ Some i → (is_plain r ≡ false → list_any (belongs p i r) seen ≡ false) → paid seen c i + cost r (Some c) ≤ paid (seen ++ d ∷ []) c i
    paid_here seen d role.Plain c i k e n = let a = paid_more seen d c i in let z = plain (Some c) in omega (arith, a, z)
    paid_here seen d role.Constructor c i k e n =
        let a = one_here seen d role.Constructor c i e (ap (same_role role.Constructor) k) (n refl) in
        let b = one_more seen d role.Destructor c i in
        omega (arith, a, b)
    paid_here seen d role.Destructor c i k e n =
        let a = one_here seen d role.Destructor c i e (ap (same_role role.Destructor) k) (n refl) in
        let b = one_more seen d role.Constructor c i in
        omega (arith, a, b)

    abbrev all_paid : List Defined → ℕ
    all_paid ds = sum (paid ds) (classes_of p.items) 0

    nothing_more : (seen : List Defined) (d : Defined) → all_paid seen + cost d.routine.sig.role None ≤ all_paid (seen ++ d ∷ [])
    nothing_more seen d = let z = none d.routine.sig.role in let h = sum_le (paid seen) (paid (seen ++ d ∷ [])) (paid_more seen d) (classes_of p.items) 0 in omega (arith, z, h)

    class_case : (seen : List Defined) (d : Defined) (i : ℕ) → IsApart seen d → place_by p d ≡ Some i → (o : Option Class) → class_at p i ≡ o → all_paid seen + cost d.routine.sig.role o ≤ all_paid (seen ++ d ∷ [])
    class_case seen d i a e None g = nothing_more seen d
    class_case seen d i a e (Some c) g =
        let z : 0 + i ≡ i = omega arith in
        let here = paid_here seen d d.routine.sig.role c i refl e (a.alone i e) in
        sum_more (paid seen) (paid (seen ++ d ∷ [])) (cost d.routine.sig.role (Some c)) (paid_more seen d) (classes_of p.items) 0 i c g (subst (λ n. paid seen c n + cost d.routine.sig.role (Some c) ≤ paid (seen ++ d ∷ []) c n) (sym z) here)

    place_case : (seen : List Defined) (d : Defined) (o : Option ℕ) → IsApart seen d → place_by p d ≡ o → all_paid seen + cost d.routine.sig.role (class_by p o) ≤ all_paid (seen ++ d ∷ [])
    place_case seen d None a e = nothing_more seen d
    place_case seen d (Some i) a e = class_case seen d i a e (class_at p i) refl

    owed_from : (seen ds : List Defined) → AreApart seen ds → all_paid seen + all_owed ds ≤ all_paid (seen ++ ds)
    owed_from seen [] a = let e = ap all_paid (append-nil seen) in omega (arith, e)
    owed_from seen (d ∷ ds) a =
        let s = place_case seen d (place_by p d) a.0 refl in
        let h = owed_from (seen ++ d ∷ []) ds a.1 in
        let e = ap all_paid (append_assoc seen (d ∷ []) ds) in
        omega (arith, s, h, e)

    pub owed_few : (ds : List Defined) → AreApart [] ds → all_owed ds ≤ all_paid ds
    owed_few ds a = let h = owed_from [] ds a in omega (arith, h)
