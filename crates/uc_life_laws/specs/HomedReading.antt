-- What is read of an own part of what is in scope: a mutex object that is at home there.
use Rattle.std.specs.Prelude.{ℕ, List, ◌∷◌}
use Rattle.uc_machine.specs.declared.exec.Owner.TheVariants.{Frame}
use Rattle.uc_machine.specs.Pieces.{Link, Value, Place, State, loaded}
use Rattle.uc_typing.specs.Typing.{Ty, Cell, Table}
use Rattle.uc_life_laws.specs.Things.{Few, IsMutex, Variables}
use Rattle.uc_life_laws.specs.HomedStates.{Owns, Inside, IsAtHome, HomedState}

-- at a binding to one that is an own part of a thing of a variable of the running execution
abbrev pub LawReading : Type 0
LawReading =
    (t : Table) (owns : Owns) (few : Few) (s : State) → HomedState t owns few s → (w : Value) (a : Ty) →
    Variables t s.env.exec (s.run ∷ s.callers) w a → (d : ℕ) (p : List Link) (b : Ty) →
    Inside t owns w a (Place (Frame s.env.exec d) p) (Cell b) → IsMutex t b →
    IsAtHome t owns few s.env.exec (loaded (Place (Frame s.env.exec d) p) s.env) (Place (Frame s.env.exec d) p)
