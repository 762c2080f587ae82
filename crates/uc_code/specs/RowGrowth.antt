-- How the rows of a draft grow.
use Rattle.std.specs.Prelude.{◌≡◌, ℕ, ◌+◌, ◌≤◌, List, [], ◌∷◌, length}
use Rattle.uc_code.specs.declared.rows.HandlerRow.{HandlerRow}
use Rattle.uc_code.specs.Drafts.{Draft}

-- the handlers of these rows begin by this place
abbrev pub BeginBy : ℕ → List HandlerRow → Type 0
BeginBy k [] = Unit {0}
BeginBy k (r ∷ rs) = (r.entry ≤ k) × BeginBy k rs

-- a draft with so many rows more; the handlers of these, and of those that got one, begin by this place
pub record AddsRows (n most : ℕ) (old new : Draft) : Type 0 where
  pub more : length new.rows ≡ length old.rows + n
  pub begin : (k : ℕ) → most ≤ k → BeginBy k old.rows → BeginBy k new.rows
