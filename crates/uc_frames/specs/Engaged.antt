-- The executions that are left at a home, and how many of them hold a task up there.
use Rattle.std.specs.Prelude.{◌≡◌, ℕ, ◌≤◌, List, length, Option, if◌then◌else◌}
use Rattle.uc_machine.specs.Executions.{Execution}
use Rattle.uc_machine.specs.Insides.{is_engaged}
use Rattle.uc_frames.specs.declared.cell.Cell.{Cell}
use Rattle.uc_frames.specs.Numbered.{Ascends}
use Rattle.uc_frames.specs.Weight.{sum_of}

-- one that has a mutex call that has not ended, or builds a mutex object
abbrev pub engaged_in : Option (Execution ℕ Cell) → ℕ
engaged_in x = if is_engaged x then 1 else 0

-- they stand in the order of their numbers, are no more than were made there, and so many hold a task up
pub record AreLeft (serial engaged : ℕ) (ps : List (ℕ × Option (Execution ℕ Cell))) : Type 0 where
  pub ascend : Ascends 0 ps serial
  pub few : length ps ≤ serial
  pub count : engaged ≡ sum_of engaged_in ps
