-- By whom executions were made, where their coroutines are, and what those that made them were to clean up then, outwards of all that was under construction.
use Rattle.std.specs.Prelude.{◌≡◌, ℕ, ◌<◌, Bool, List}
use Rattle.uc_machine.specs.declared.exec.Exec.{Exec}
use Rattle.uc_machine.specs.Pieces.{Value}
use Rattle.uc_life_laws.specs.Placed.{Placed}
use Rattle.uc_life_laws.specs.Destroying.{Seat}
use Rattle.uc_life_laws.specs.Held.{Seating}

-- by whom each execution was made, the object for which it was made, with where mutex objects are at home, what that was to clean up then outwards of all that
-- was under construction there, and a number that grows with each that is made
pub record Makers : Type 0 where
  pub parent : Exec → Exec
  pub seat : Exec → Seat
  pub before : Exec → List Placed
  pub rank : Exec → ℕ

abbrev pub seating : Makers → Seating
seating makers = record { parent = makers.parent; seat = makers.seat; before = makers.before }

-- one is made by another, which was made before, for this object, as the main of a task or not, and that is to clean up this then outwards of what is under
-- construction
pub record MadeBy (makers : Makers) (n by : Exec) (v : Value) (main : Bool) (ps : List Placed) : Type 0 where
  pub parent : makers.parent n ≡ by
  pub seat : (makers.seat n).place ≡ v
  pub task : (makers.seat n).task ≡ main
  pub before : makers.before n ≡ ps
  pub later : makers.rank by < makers.rank n
