-- What is read at a place within what is in scope.
use Rattle.std.specs.Prelude.{ℕ, List, [], ◌∷◌}
use Rattle.uc_machine.specs.declared.exec.Owner.TheVariants.{Frame}
use Rattle.uc_machine.specs.Pieces.{Link, Value, Place, State, loaded, variable_at}
use Rattle.uc_typing.specs.Typing.{Ty, Cell, Table, InScope}
use Rattle.uc_typing.specs.States.{Typed, ReadsVariable}
use Rattle.uc_life_laws.specs.Things.{Few, IsBinding, Within, Around, Variables, Known}
use Rattle.uc_life_laws.specs.LifeStates.{LifeState}

-- what is read at a binding within a thing of a variable is known; what is in scope, of a routine and of a handler in it, is such a thing; so
-- what the running activation reads of a variable by its name is of its type
pub record LawReading : Type 0 where
  pub places : (t : Table) (few : Few) (s : State) → LifeState t few s → (w : Value) (a : Ty) →
      Variables t s.env.exec (s.run ∷ s.callers) w a → (d : ℕ) (p : List Link) (b : Ty) →
      Within t w a (Place (Frame s.env.exec d) p) (Cell b) → IsBinding b →
      Known t few s.env.exec (Around t few s.env.exec (s.run ∷ s.callers)) b (loaded (Place (Frame s.env.exec d) p) s.env)
  pub names : (t : Table) (given : List Ty) (s : State) (x : Typed t given s) (k : ℕ) (a : Ty) →
      InScope x.run.scope k a → Variables t s.env.exec (s.run ∷ s.callers) (variable_at k s) a
  pub reads : (t : Table) (few : Few) (s : State) (x : Typed t [] s) → LifeState t few s →
      ReadsVariable t x.run.scope s s.run.control
