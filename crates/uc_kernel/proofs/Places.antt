-- Lists by place.
use Rattle.std.proofs.Common.{◌≡◌, ◌≢◌, ℕ, zero, suc, ◌==◌, ◌<◌, ◌≤◌, false, List, [], ◌∷◌, ◌++◌, Option, Some, None, refl, sym, ap, ◌∙◌, subst, set, get_or, length, arith}
use Rattle.std.specs.Prelude.{slice_set, slice_index_or}
use Rattle.uc_entry.specs.declared.entry.Entry.{Entry}
use Rattle.uc_entry.specs.Listed.{Listed}
use Rattle.uc_kernel.specs.declared.rests.TaskAtRest.{TaskAtRest}
use Rattle.uc_kernel.specs.Numbered.{or_else}
use Rattle.uc_kernel.specs.KernelState.{member_in, member_among}
use Rattle.uc_kernel.specs.AtRest.{GivenTo, LetIn, LetInBy, another}
use Rattle.uc_kernel.proofs.Hands.{some-same}

pub set_twice : {A : Type 0} (xs : List A) (i : ℕ) (x y : A) → slice_set (slice_set xs i x) i y ≡ slice_set xs i y
set_twice [] i x y = refl
set_twice (z ∷ xs) zero x y = refl
set_twice (z ∷ xs) (suc i) x y = ap (λ l. z ∷ l) (set_twice xs i x y)

pub same_rest : {T M : Type 0} (o : ℕ) (m : M) (r q : TaskAtRest T M) (l : Listed (ℕ × M)) → Some q ≡ Some r → l.items ≡ q.members.items ++ (o, m) ∷ [] → GivenTo o m r (record { task = q.task; members = l })
same_rest o m r q l e h = record {
  task = ap (λ x. x.task) (some-same e);
  items = h ∙ ap (λ x. x.members.items ++ (o, m) ∷ []) (some-same e);
}

pub let_another : {T M : Type 0} (e : Entry) (t : ℕ) (h : Listed (ℕ × M)) (tasks tasks' : List (Option (TaskAtRest T M))) (loose : List (Option M)) (m : M) → slice_index_or loose e.object None ≡ Some m → (e.task == t) ≡ false → (slice_index_or tasks e.task None ≡ None → ⊥) → ((r : TaskAtRest T M) → slice_index_or tasks e.task None ≡ Some r → (r' : TaskAtRest T M) × GivenTo e.object m r r' × (tasks' ≡ slice_set tasks e.task (Some r'))) → LetIn e t h h tasks tasks' loose
let_another {T} {M} e t h tasks tasks' loose m found n there gives = by (slice_index_or tasks e.task None) refl
  where
    by : (x : Option (TaskAtRest T M)) → slice_index_or tasks e.task None ≡ x → LetIn e t h h tasks tasks' loose
    by None g = absurd (there g)
    by (Some r) g = let w = gives r g in another m r w.0 found n refl g w.1 w.2

-- the members of an object among tasks at rest
pub among_none : {T M : Type 0} (o : ℕ) (rs : List (Option (TaskAtRest T M))) → ((u : ℕ) → member_in o (get_or rs u None) ≡ None) → member_among o rs ≡ None
among_none o [] h = refl
among_none o (r ∷ rs) h = ap (λ x. or_else x (member_among o rs)) (h 0) ∙ among_none o rs (λ u. h (suc u))

pub among_only : {T M : Type 0} (o t : ℕ) (m : M) (rs : List (Option (TaskAtRest T M))) → t < length rs → member_in o (get_or rs t None) ≡ Some m → ((u : ℕ) → u ≢ t → member_in o (get_or rs u None) ≡ None) → member_among o rs ≡ Some m
among_only o t m [] l e h = absurd (omega (arith, l))
among_only o zero m (r ∷ rs) l e h = ap (λ x. or_else x (member_among o rs)) e
among_only o (suc t) m (r ∷ rs) l e h =
    ap (λ x. or_else x (member_among o rs)) (h 0 (λ s. omega (arith, s))) ∙ among_only o t m rs (omega (arith, l)) e (λ u n. h (suc u) (λ s. n (omega (arith, s))))

pub among_same : {T M : Type 0} (o t : ℕ) (x : Option (TaskAtRest T M)) (rs : List (Option (TaskAtRest T M))) → member_in o x ≡ member_in o (get_or rs t None) → member_among o (set rs t x) ≡ member_among o rs
among_same o t x [] e = refl
among_same o zero x (r ∷ rs) e = ap (λ y. or_else y (member_among o rs)) e
among_same o (suc t) x (r ∷ rs) e = ap (or_else (member_in o r)) (among_same o t x rs e)

-- out of bounds there is nothing
pub get_past : {A : Type 0} (xs : List A) (i : ℕ) (d : A) → length xs ≤ i → get_or xs i d ≡ d
get_past [] i d l = refl
get_past (x ∷ xs) zero d l = absurd (omega (arith, l))
get_past (x ∷ xs) (suc i) d l = get_past xs i d (omega (arith, l))

-- within a list, no default is read
pub get_any : {A : Type 0} (xs : List A) (i : ℕ) (d e : A) → i < length xs → get_or xs i d ≡ get_or xs i e
get_any [] i d e l = absurd (omega (arith, l))
get_any (x ∷ xs) zero d e l = refl
get_any (x ∷ xs) (suc i) d e l = get_any xs i d e (omega (arith, l))

pub let_by : {T M : Type 0} (admission : Option Entry) (e : Entry) (t : ℕ) (h h' : Listed (ℕ × M)) (tasks tasks' : List (Option (TaskAtRest T M))) (loose loose' : List (Option M)) → admission ≡ Some e → LetIn e t h h' tasks tasks' loose → loose' ≡ slice_set loose e.object None → LetInBy admission t h h' tasks tasks' loose loose'
let_by admission e t h h' tasks tasks' loose loose' is moved laid = record {
  none = λ n. clash (sym n ∙ is);
  some = λ d f. let same : e ≡ d = some-same (sym is ∙ f) in (subst (λ x. LetIn x t h h' tasks tasks' loose) same moved, subst (λ x. loose' ≡ slice_set loose x.object None) same laid);
}
  where
    clash : {A : Type 0} → None ≡ Some e → A
    clash f = absurd (cc)
