-- The innermost row of marks that is below a number.
use Rattle.std.proofs.Common.{◌≡◌, ℕ, suc, ◌+◌, ◌-◌, ◌<◌, ◌≤◌, min, List, ◌∷◌, length, get_or, reverse, take, Some, refl, ap, sym, ◌∙◌, arith, inl, inr}
use Rattle.std.proofs.lemmas.Bool.{cases_lt, lt-ltb, le-ltb}
use Rattle.uc_code.specs.declared.rows.CodeMark.{CodeMark}
use Rattle.uc_code.specs.declared.rows.CodeMark.TheVariants as mark
use Rattle.uc_code.specs.declared.marks.RowView.TheVariants as seen
use Rattle.uc_code.specs.Layout.{under, handlers}
use Rattle.uc_code.specs.OpenRows.{first_in, seen_row, seen_at}
use Rattle.uc_code.proofs.Nesting.{under_take, under_drop, under_under}
use Rattle.uc_code.proofs.Closed.{reverse_take}

same_row : (a b : ℕ) → seen.Row a ≡ seen.Row b → a ≡ b
same_row a b e = cc

same_bound : (a b : ℕ) → seen.Bound a ≡ seen.Bound b → a ≡ b
same_bound a b e = cc

no_row : {X : Type 0} → (a b : ℕ) → seen.Bound a ≡ seen.Row b → X
no_row a b e = absurd (cc)

no_bound : {X : Type 0} → (a b : ℕ) → seen.Row a ≡ seen.Bound b → X
no_bound a b e = absurd (cc)

below_seen : (row bound : ℕ) → row < bound → seen_row row bound ≡ seen.Row row
below_seen row bound l = rw (lt-ltb row bound l) refl

past_seen : (row bound : ℕ) → bound ≤ row → seen_row row bound ≡ seen.Bound bound
past_seen row bound l = rw (le-ltb row bound l) refl

row_seen : (row bound k : ℕ) (hs : List ℕ) → seen_row row bound ≡ seen.Row k → under bound (row ∷ hs) ≡ k ∷ under bound hs
row_seen row bound k hs e = elim (cases_lt row bound) [
  | inl l ↦ let q : row ≡ k = same_row row k (sym (below_seen row bound l) ∙ e) in under_take bound row hs l ∙ ap (λ (n : ℕ). n ∷ under bound hs) q
  | inr l ↦ no_row bound k (sym (past_seen row bound l) ∙ e)
]

row_next : (row bound k : ℕ) (hs : List ℕ) → seen_row row bound ≡ seen.Bound k → under bound (row ∷ hs) ≡ under k hs
row_next row bound k hs e = elim (cases_lt row bound) [
  | inl l ↦ no_bound row k (sym (below_seen row bound l) ∙ e)
  | inr l ↦ let q : bound ≡ k = same_bound bound k (sym (past_seen row bound l) ∙ e) in under_drop bound row hs l ∙ ap (λ b. under b hs) q
]

pub seen_row_is : (m : CodeMark) (ms : List CodeMark) (bound k : ℕ) → seen_at m bound ≡ seen.Row k → under bound (handlers (m ∷ ms)) ≡ k ∷ under bound (handlers ms)
seen_row_is (mark.Body routine) ms bound k e = no_row bound k e
seen_row_is (mark.Loop leave again) ms bound k e = no_row bound k e
seen_row_is (mark.Outward below row) ms bound k e = no_row (min bound below) k e
seen_row_is (mark.Clean what line row) ms bound k e = row_seen row bound k (handlers ms) e
seen_row_is (mark.Part row) ms bound k e = row_seen row bound k (handlers ms) e
seen_row_is (mark.Elements row) ms bound k e = row_seen row bound k (handlers ms) e
seen_row_is (mark.Guard row) ms bound k e = row_seen row bound k (handlers ms) e
seen_row_is (mark.Finish main routine line row) ms bound k e = row_seen row bound k (handlers ms) e
seen_row_is (mark.Whole leave row) ms bound k e = row_seen row bound k (handlers ms) e

pub seen_next : (m : CodeMark) (ms : List CodeMark) (bound k : ℕ) → seen_at m bound ≡ seen.Bound k → under bound (handlers (m ∷ ms)) ≡ under k (handlers ms)
seen_next (mark.Body routine) ms bound k e = ap (λ b. under b (handlers ms)) (same_bound bound k e)
seen_next (mark.Loop leave again) ms bound k e = ap (λ b. under b (handlers ms)) (same_bound bound k e)
seen_next (mark.Outward below row) ms bound k e = under_under bound below (handlers ms) ∙ ap (λ b. under b (handlers ms)) (same_bound (min bound below) k e)
seen_next (mark.Clean what line row) ms bound k e = row_next row bound k (handlers ms) e
seen_next (mark.Part row) ms bound k e = row_next row bound k (handlers ms) e
seen_next (mark.Elements row) ms bound k e = row_next row bound k (handlers ms) e
seen_next (mark.Guard row) ms bound k e = row_next row bound k (handlers ms) e
seen_next (mark.Finish main routine line row) ms bound k e = row_next row bound k (handlers ms) e
seen_next (mark.Whole leave row) ms bound k e = row_next row bound k (handlers ms) e

-- the steps of the loops

module _ (marks : List CodeMark) (i : ℕ) (d : CodeMark) (p : 0 < i) (l : i ≤ length marks) where
  innermost : reverse (take i marks) ≡ get_or marks (i - 1) d ∷ reverse (take (i - 1) marks)
  innermost = reverse_take marks i d p l

  pub seen_found : (bound k : ℕ) → seen_at (get_or marks (i - 1) d) bound ≡ seen.Row k → under bound (handlers (reverse (take i marks))) ≡ k ∷ under bound (handlers (reverse (take (i - 1) marks)))
  seen_found bound k e = ap (λ ms. under bound (handlers ms)) innermost ∙ seen_row_is (get_or marks (i - 1) d) (reverse (take (i - 1) marks)) bound k e

  pub seen_passed : (bound k : ℕ) → seen_at (get_or marks (i - 1) d) bound ≡ seen.Bound k → under bound (handlers (reverse (take i marks))) ≡ under k (handlers (reverse (take (i - 1) marks)))
  seen_passed bound k e = ap (λ ms. under bound (handlers ms)) innermost ∙ seen_next (get_or marks (i - 1) d) (reverse (take (i - 1) marks)) bound k e

  pub row_found : (below bound k : ℕ) → first_in (under below (handlers (reverse marks))) ≡ first_in (under bound (handlers (reverse (take i marks)))) → seen_at (get_or marks (i - 1) d) bound ≡ seen.Row k → first_in (under below (handlers (reverse marks))) ≡ Some k
  row_found below bound k inv e = inv ∙ ap first_in (seen_found bound k e)

  pub row_passed : (below bound k : ℕ) → first_in (under below (handlers (reverse marks))) ≡ first_in (under bound (handlers (reverse (take i marks)))) → seen_at (get_or marks (i - 1) d) bound ≡ seen.Bound k → first_in (under below (handlers (reverse marks))) ≡ first_in (under k (handlers (reverse (take (i - 1) marks))))
  row_passed below bound k inv e = inv ∙ ap first_in (seen_passed bound k e)

  -- how many there are

  pub row_counted : (below bound count k : ℕ) → length (under below (handlers (reverse marks))) ≡ count + length (under bound (handlers (reverse (take i marks)))) → seen_at (get_or marks (i - 1) d) bound ≡ seen.Row k → length (under below (handlers (reverse marks))) ≡ count + 1 + length (under bound (handlers (reverse (take (i - 1) marks))))
  row_counted below bound count k inv e = let q : length (under bound (handlers (reverse (take i marks)))) ≡ suc (length (under bound (handlers (reverse (take (i - 1) marks))))) = ap length (seen_found bound k e) in omega arith

  pub count_passed : (below bound count k : ℕ) → length (under below (handlers (reverse marks))) ≡ count + length (under bound (handlers (reverse (take i marks)))) → seen_at (get_or marks (i - 1) d) bound ≡ seen.Bound k → length (under below (handlers (reverse marks))) ≡ count + length (under k (handlers (reverse (take (i - 1) marks))))
  count_passed below bound count k inv e = inv ∙ ap (λ ns. count + length ns) (seen_passed bound k e)
