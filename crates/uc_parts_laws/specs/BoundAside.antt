-- What is bound, but to a new mutex object, is bound aside of elements of arrays that are being destroyed.
use Rattle.std.specs.Prelude.{◌≡◌, ℕ, List, [], ◌∷◌, Option}
use Rattle.uc_tree.specs.Programs.{Program}
use Rattle.uc_machine.specs.declared.exec.Exec.{Exec}
use Rattle.uc_machine.specs.Pieces.{Todo, BindNow, State, at, top, below}
use Rattle.uc_rules.specs.Breaks.{breaks_of}
use Rattle.uc_sound.specs.SoundFormed.{IsFormed}
use Rattle.uc_state_laws.specs.Limits.{IsWithinLimits}
use Rattle.uc_life_laws.specs.Things.{Few}
use Rattle.uc_life_laws.specs.Belonging.{Belongs}
use Rattle.uc_cell_laws.specs.CellStates.{CellState}
use Rattle.uc_cell_laws.specs.OwnCells.{telling_of}
use Rattle.uc_parts_laws.specs.Standing.{IsAside}

abbrev pub BindsAsideAt : List Todo → State → Type 0
BindsAsideAt (BindNow ∷ todo) s = IsAside (at todo s.run.operands s) (top (below s.run.operands))
BindsAsideAt todo s = Unit {0}

abbrev pub BindsAside : State → Type 0
BindsAside s = BindsAsideAt s.run.control s

-- of each program that breaks no rule and is within its limits, whatever the classes of numbers: in each state in which own cells hold what is at home there, where
-- object 0 is nobody's own
abbrev pub LawBoundAside : Type 0
LawBoundAside =
    (p : Program) → IsFormed p → breaks_of p ≡ [] → IsWithinLimits p → (few : Few) → ((n : Exec) → Belongs few n (few.home 0) → ⊥) →
    (class : ℕ → Option ℕ) (s : State) → CellState (telling_of p few class) s → BindsAside s
