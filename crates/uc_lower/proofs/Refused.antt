-- Which programs are not lowered.
use Rattle.std.proofs.Common.{◌≡◌, ℕ, ◌+◌, ◌≤◌, ◌<◌, ◌⊎◌, inl, inr, Some, length, ap, subst, ◌∙◌, arith}
use Rattle.std.specs.Prelude.{slice_get}
use Rattle.std.proofs.lemmas.Bool.{cases_lt}
use Rattle.uc_tree.specs.declared.limits.TheConstants.{FRAME_CELLS, PROGRAM_SIZE}
use Rattle.uc_tree.specs.Capped.{capped}
use Rattle.uc_tree.specs.Cells.{routine_cells}
use Rattle.uc_tree.specs.Numbering.{Defined, routines_of}
use Rattle.uc_tree.specs.Programs.{Program}
use Rattle.uc_tree.specs.Sizes.{program_size}
use Rattle.uc_lower.specs.Refusals.{FitsBefore, FitsAll, IsFirstLarge, IsLarge, Fits}
use Rattle.uc_lower.proofs.RoutineLayoutLemmas.{within}

pub none_before : (p : Program) → FitsBefore p 0
none_before p = record { each = λ k d l e. absurd (omega (arith, l)) }

pub before_step : (p : Program) (i cells : ℕ) (x : Defined) → slice_get (routines_of p) i ≡ Some x → cells ≡ capped (routine_cells p x.routine) → cells ≤ FRAME_CELLS → FitsBefore p i → FitsBefore p (i + 1)
before_step p i cells x at is few b = record { each = λ k d l e. by_place k d l e (cases_lt k i) }
  where
    few_here : routine_cells p x.routine ≤ FRAME_CELLS
    few_here = omega (arith, is, few)

    by_place : (k : ℕ) (d : Defined) → k < i + 1 → slice_get (routines_of p) k ≡ Some d → (k < i) ⊎ (i ≤ k) → routine_cells p d.routine ≤ FRAME_CELLS
    by_place k d l e (inl h) = b.each k d h e
    by_place k d l e (inr h) =
        let here : i ≡ k = omega (arith, l, h) in
        let there : slice_get (routines_of p) i ≡ Some d = ap (λ j. slice_get (routines_of p) j) here ∙ e in
        let same : x ≡ d = (cc) in
        subst (λ (y : Defined). routine_cells p y.routine ≤ FRAME_CELLS) same few_here

pub all_fit : (p : Program) (i : ℕ) → length (routines_of p) ≤ i → FitsBefore p i → FitsAll p
all_fit p i h b = record { each = λ k d e. let l = within (routines_of p) k d e in b.each k d (omega (arith, l, h)) e }

pub first_large : (p : Program) (i cells : ℕ) (x : Defined) → slice_get (routines_of p) i ≡ Some x → cells ≡ capped (routine_cells p x.routine) → FRAME_CELLS < cells → FitsBefore p i → IsFirstLarge p i cells
first_large p i cells x at is many b = record { routine = x; there = at; large = omega (arith, is, many); cells = is; before = b }

pub all_large : (p : Program) (size : ℕ) → FitsAll p → size ≡ capped (program_size p) → PROGRAM_SIZE < size → IsLarge p size
all_large p size f is many = record { frames = f; large = omega (arith, is, many); size = is }

pub fits : (p : Program) (size : ℕ) → FitsAll p → size ≡ capped (program_size p) → size ≤ PROGRAM_SIZE → Fits p
fits p size f is few = record { frames = f; size = omega (arith, is, few) }
