-- Looking a name up from the last one on.
use Rattle.std.proofs.Common.{◌≡◌, ◌≢◌, ℕ, zero, suc, ◌-◌, ◌<◌, ◌≤◌, List, [], ◌∷◌, length, get_or, Some, None, refl, ap, sym, ◌∙◌, arith, eq-or-lt_of_le, inl, inr}
use Rattle.std.specs.Prelude.{slice_get}
use Rattle.uc_tree.specs.declared.kinds.LocalVariable.{LocalVariable}
use Rattle.uc_code.specs.Drafts.{IsInnermost, IsUnknown}

pub slice_get_at : {A : Type 0} (xs : List A) (i : ℕ) (d : A) → i < length xs → slice_get xs i ≡ Some (get_or xs i d)
slice_get_at [] i d h = absurd (omega arith)
slice_get_at (x ∷ xs) zero d h = refl
slice_get_at (x ∷ xs) (suc i) d h = slice_get_at xs i d (omega arith)

pub slice_get_past : {A : Type 0} (xs : List A) (i : ℕ) → length xs ≤ i → slice_get xs i ≡ None
slice_get_past [] i h = refl
slice_get_past (x ∷ xs) zero h = absurd (omega arith)
slice_get_past (x ∷ xs) (suc i) h = slice_get_past xs i (omega arith)

-- no name from this one on
pub record NoneFrom (names : List LocalVariable) (name : List ℕ) (i : ℕ) : Type 0 where
  pub none : (k : ℕ) (other : LocalVariable) → i ≤ k → slice_get names k ≡ Some other → other.name ≢ name

pub none_past : (names : List LocalVariable) (name : List ℕ) → NoneFrom names name (length names)
none_past names name = record { none = λ k other h e. let f : None ≡ Some other = sym (slice_get_past names k h) ∙ e in cc }

pub none_step : (names : List LocalVariable) (name : List ℕ) (i : ℕ) (d : LocalVariable) → 0 < i → i ≤ length names → (get_or names (i - 1) d).name ≢ name → NoneFrom names name i → NoneFrom names name (i - 1)
none_step names name i d p l ne h = record {
  none = λ k other le e.
      elim (eq-or-lt_of_le le) as (λ _. other.name ≢ name) [
        | inl same ↦ λ f.
            let at : slice_get names (i - 1) ≡ Some (get_or names (i - 1) d) = slice_get_at names (i - 1) d (omega arith) in
            let there : slice_get names (i - 1) ≡ Some other = ap (slice_get names) same ∙ e in
            let is : get_or names (i - 1) d ≡ other = cc in
            ne (ap (λ (x : LocalVariable). x.name) is ∙ f)
        | inr lt ↦ h.none k other (omega arith) e
      ];
}

pub innermost_found : (names : List LocalVariable) (name : List ℕ) (i : ℕ) (d : LocalVariable) → 0 < i → i ≤ length names → (get_or names (i - 1) d).name ≡ name → NoneFrom names name i → IsInnermost names name (get_or names (i - 1) d)
innermost_found names name i d p l same h = record {
  number = i - 1;
  there = slice_get_at names (i - 1) d (omega arith);
  same = same;
  later = λ k other lt e. h.none k other (omega arith) e;
}

pub all_passed : (names : List LocalVariable) (name : List ℕ) (i : ℕ) → i ≤ 0 → NoneFrom names name i → IsUnknown names name
all_passed names name i z h = record { none = λ k other e. h.none k other (omega arith) e }
