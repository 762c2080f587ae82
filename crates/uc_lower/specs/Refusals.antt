-- When a program is not lowered.
use Rattle.std.specs.Prelude.{◌≡◌, ℕ, ◌≤◌, ◌<◌, Some, slice_get}
use Rattle.uc_tree.specs.declared.limits.TheConstants.{FRAME_CELLS, PROGRAM_SIZE}
use Rattle.uc_tree.specs.Capped.{capped}
use Rattle.uc_tree.specs.Cells.{routine_cells}
use Rattle.uc_tree.specs.Numbering.{Defined, routines_of}
use Rattle.uc_tree.specs.Programs.{Program}
use Rattle.uc_tree.specs.Sizes.{program_size}
use Rattle.uc_lower.specs.declared.lower.LowerFault.{LowerFault}
use Rattle.uc_lower.specs.declared.lower.LowerFault.TheVariants as fault

-- no routine before this number has too large a frame
pub record FitsBefore (p : Program) (number : ℕ) : Type 0 where
  pub each : (k : ℕ) (d : Defined) → k < number → slice_get (routines_of p) k ≡ Some d → routine_cells p d.routine ≤ FRAME_CELLS

-- no routine has
pub record FitsAll (p : Program) : Type 0 where
  pub each : (k : ℕ) (d : Defined) → slice_get (routines_of p) k ≡ Some d → routine_cells p d.routine ≤ FRAME_CELLS

-- the first routine with too large a frame
pub record IsFirstLarge (p : Program) (number counted : ℕ) : Type 0 where
  pub routine : Defined
  pub there : slice_get (routines_of p) number ≡ Some routine
  pub large : FRAME_CELLS < routine_cells p routine.routine
  pub cells : counted ≡ capped (routine_cells p routine.routine)
  pub before : FitsBefore p number

-- all frames fit, and the program is too large
pub record IsLarge (p : Program) (counted : ℕ) : Type 0 where
  pub frames : FitsAll p
  pub large : PROGRAM_SIZE < program_size p
  pub size : counted ≡ capped (program_size p)

-- a program that fits
pub record Fits (p : Program) : Type 0 where
  pub frames : FitsAll p
  pub size : program_size p ≤ PROGRAM_SIZE

abbrev pub Refuses : Program → LowerFault → Type 0
Refuses p (fault.FrameTooLarge number cells) = IsFirstLarge p number cells
Refuses p (fault.CodeTooLarge size) = IsLarge p size
Refuses p fault.NoMemory = Unit {0}
