-- A task as its main begins, on cells and in the source.
use Rattle.std.specs.Prelude.{◌≡◌, ℕ, Option, Some, MatchOption, slice_get}
use Rattle.uc_tree.specs.Source.{Source, Routine}
use Rattle.uc_machine.specs.Quiet.{first_state}
use Rattle.uc_code.specs.Codes.{Code}
use Rattle.uc_code.specs.Layout.{laid_of}
use Rattle.uc_code.specs.Lowered.{Lowered}
use Rattle.uc_frames.specs.Machine.{Machine}
use Rattle.uc_frames.specs.Stands.{Stands}

-- where the code is that of a source which has the routine, there is a task, and it stands for the first state of the routine
abbrev pub Starts : Code → ℕ → ℕ → Option Machine → Type 0
Starts code main own task =
    (source : Source) (r : Routine) → Lowered source code → slice_get source.routines main ≡ Some r → MatchOption task ⊥ (λ m. Stands (laid_of code) m (first_state r own))
