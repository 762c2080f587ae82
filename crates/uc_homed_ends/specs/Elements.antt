-- Where nothing is told of fields, all that is asked of scopes is that arrays of mutex objects hold what is at home in them.
use Rattle.std.specs.Prelude.{◌≡◌, ℕ, ◌<◌, true, false, List, [], ◌∷◌, slice_index_or}
use Rattle.uc_tree.specs.Source.{Binding, Variable, Scoped}
use Rattle.uc_machine.specs.Pieces.{Slot, At, Todo, Rest, State, further, address, nought, variable_at}
use Rattle.uc_typing.specs.Typing.{Cell, Obj, Row, Table, CleansAt}
use Rattle.uc_life_laws.specs.Things.{Few}
use Rattle.uc_life_laws.specs.LifeStates.{frame_at}
use Rattle.uc_life_laws.specs.HomedStates.{Owns}
use Rattle.uc_putting_laws.specs.Putting.{IsHome}

-- of no field it is told that it holds what is its own
abbrev pub no_fields : Owns
no_fields c i = false

-- where the scope of an array of mutex objects opens that is a variable, each of its elements is at home there
abbrev pub OpensElementsAt : Table → Few → List Todo → State → Type 0
OpensElementsAt t few (Rest (Scoped c rest) ∷ todo) s = (k m e : ℕ) → t.mutex e ≡ true → CleansAt t (Row m (Cell (Obj e))) (Variable k) c →
    (j : ℕ) → j < m → IsHome few (slice_index_or (frame_at s.run.frame s.env.frames) (address (At Binding j ∷ (Slot k ∷ []))) nought)
    (further (At Binding j) (variable_at k s))
OpensElementsAt t few todo s = Unit {0}

abbrev pub OpensElements : Table → Few → State → Type 0
OpensElements t few s = OpensElementsAt t few s.run.control s
