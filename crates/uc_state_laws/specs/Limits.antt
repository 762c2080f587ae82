-- Programs within the limits on frames and on sizes, and how large the frames of their sources are.
use Rattle.std.specs.Prelude.{◌≡◌, ◌≤◌, ◌+◌, ◌*◌, ℕ, Some, slice_get}
use Rattle.uc_tree.specs.declared.limits.TheConstants.{FRAME_CELLS, PROGRAM_SIZE}
use Rattle.uc_tree.specs.Cells.{routine_cells}
use Rattle.uc_tree.specs.Hidden.{KEPT_CELLS}
use Rattle.uc_tree.specs.Numbering.{Defined, routines_of}
use Rattle.uc_tree.specs.Programs.{Program}
use Rattle.uc_tree.specs.Sizes.{program_size}
use Rattle.uc_resolve.specs.Resolve.{source_of}
use Rattle.uc_state_laws.specs.FrameSizes.{SourceFits}

-- the variables of each written routine take no more cells than a frame may have, and the program is no larger than one may be
pub record IsWithinLimits (p : Program) : Type 0 where
  pub frames : (number : ℕ) (d : Defined) → slice_get (routines_of p) number ≡ Some d →
      routine_cells p d.routine ≤ FRAME_CELLS
  pub size : program_size p ≤ PROGRAM_SIZE

-- those of variables, and the hidden ones, of which a handler keeps the most for one unit of size
abbrev pub MOST_CELLS : ℕ
MOST_CELLS = FRAME_CELLS + KEPT_CELLS * PROGRAM_SIZE

-- no routine of such a program takes more
abbrev pub LawLimits : Type 0
LawLimits = (p : Program) → IsWithinLimits p → SourceFits MOST_CELLS (source_of p)
