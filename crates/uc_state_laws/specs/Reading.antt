-- What the variables of a typed task hold that are in scope: of a routine its own, of a handler of resumptions those of its routine too.
use Rattle.std.specs.Prelude.{◌≡◌, ℕ, ◌<◌, List, [], ◌∷◌}
use Rattle.uc_tree.specs.Source.{Binding}
use Rattle.uc_machine.specs.Pieces.{At, Todo, LoadNow, State, loaded, further, top, variable_at}
use Rattle.uc_typing.specs.Typing.{Ty, Cell, Row, Name, Table, InScope}
use Rattle.uc_typing.specs.States.{Is, Typed, ReadsVariable, ReadsPlace}
use Rattle.uc_state_laws.specs.ThereStates.{ThereState}

-- what is read at a place is an element of an array in scope
abbrev pub ReadsElement : List Name → State → List Todo → List Ty → Type 0
ReadsElement sc s (LoadNow ∷ todo) (Cell a ∷ more) =
    (k m i : ℕ) × InScope sc k (Row m (Cell a)) × (i < m) ×
    (top s.run.operands ≡ further (At Binding i) (variable_at k s))
ReadsElement sc s todo own = ⊥

-- what a variable holds is an object of its class, a cluster or a processor, and so is each element of an array of them
pub record LawReading : Type 0 where
  pub variables : (t : Table) (given : List Ty) (s : State) (x : Typed t given s) → ThereState s →
      (k : ℕ) (a : Ty) → InScope x.run.scope k (Cell a) → Is t a (loaded (variable_at k s) s.env)
  pub elements : (t : Table) (given : List Ty) (s : State) (x : Typed t given s) → ThereState s →
      (k m : ℕ) (a : Ty) → InScope x.run.scope k (Row m (Cell a)) → (i : ℕ) → i < m →
      Is t a (loaded (further (At Binding i) (variable_at k s)) s.env)
  -- so what the running activation reads of a variable by its name is of its type
  pub reads : (t : Table) (s : State) (x : Typed t [] s) → ThereState s →
      ReadsVariable t x.run.scope s s.run.control
  -- and so is what it reads at the place of such an element
  pub reads_element : (t : Table) (s : State) (x : Typed t [] s) → ThereState s →
      ReadsElement x.run.scope s s.run.control x.run.own →
      ReadsPlace t x.run.sig s s.run.control x.run.own
