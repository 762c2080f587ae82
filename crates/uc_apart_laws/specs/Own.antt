-- What an execution has of others is not its own: so what is its own stands in what it has to clean up alone.
use Rattle.std.specs.Prelude.{ℕ, List}
use Rattle.uc_machine.specs.declared.exec.Exec.{Exec}
use Rattle.uc_machine.specs.Pieces.{Value, Active}
use Rattle.uc_typing.specs.Typing.{Ty, Table}
use Rattle.uc_life_laws.specs.Things.{Few, Base, Things}
use Rattle.uc_life_laws.specs.Belonging.{Belongs}
use Rattle.uc_life_laws.specs.Marks.{Marked, Free}
use Rattle.uc_apart_laws.specs.Clear.{IsNoHome}

-- what an execution has of others is in no frame of its own, nor in mutex objects that are at home there
abbrev pub IsOfOthers : Few → Exec → Type 0
IsOfOthers few n = (w : Value) (b : Ty) → Base few n w b → Belongs few n w → ⊥

-- then who has no mark around an object that is at home in what is its own has nothing at hand in which it is at home
abbrev pub LawOwn : Type 0
LawOwn =
    (t : Table) (few : Few) (o : ℕ) (n : Exec) (cs : List Active) → IsOfOthers few n →
    Belongs few n (few.home o) → Free t few o (Marked t n cs) → IsNoHome t few o (Things t few n cs)
