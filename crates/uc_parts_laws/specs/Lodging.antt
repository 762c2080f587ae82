-- What a destructor that comes to the end of an execution is called for is what the coroutine stands in.
use Rattle.std.specs.Prelude.{◌≡◌, ℕ, true, false, List, Some}
use Rattle.uc_tree.specs.Source.{Source}
use Rattle.uc_machine.specs.declared.exec.Exec.{Exec}
use Rattle.uc_machine.specs.Pieces as piece
use Rattle.uc_machine.specs.Pieces.{Value, Active}
use Rattle.uc_typing.specs.Typing.{Ty, Cell, Obj, Table}
use Rattle.uc_typing.specs.States.{Sound}
use Rattle.uc_life_laws.specs.Things.{Few, Stands}
use Rattle.uc_life_laws.specs.Marks.{Marked}
use Rattle.uc_life_laws.specs.Destroying.{Seat, Destroying}

-- an object of a class stands among these things: a mutex object where it is at home, all else at its place
module _ (t : Table) (few : Few) (K : Value → Ty → Type 0) (c : ℕ) where
  abbrev pub StandsAs : Value → Type 0
  StandsAs (piece.Object o) = (t.mutex c ≡ true) × Stands t few K (Cell (Obj c)) (few.home o)
  StandsAs (piece.Number z) = Stands t few K (Obj c) (piece.Number z)
  StandsAs (piece.Place o p) = Stands t few K (Obj c) (piece.Place o p)
  StandsAs (piece.Running x) = Stands t few K (Obj c) (piece.Running x)
  StandsAs piece.Nothing = Stands t few K (Obj c) piece.Nothing

-- a coroutine does, as an object that has an execution
pub record IsLodged (t : Table) (few : Few) (K : Value → Ty → Type 0) (v : Value) : Type 0 where
  pub class : ℕ
  pub executes : t.executes class ≡ true
  pub stands : StandsAs t few K class v

-- in a source all code of which is of types, where what the destructor is called for stands in what an execution has to clean up, by the homes of mutex objects
abbrev pub LawLodging : Type 0
LawLodging = (t : Table) (few : Few) (source : Source) → Sound t source → (w : Seat) → ((o : ℕ) → w.home o ≡ few.home o) → w.task ≡ false →
    (n : Exec) (cs : List Active) (r c : ℕ) (v : Value) → Destroying source w r v → (t.routine r).this ≡ Some c →
    StandsAs t few (Marked t n cs) c v → IsLodged t few (Marked t n cs) w.place
