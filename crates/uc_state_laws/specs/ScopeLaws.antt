-- What is declared lies apart from all that is in scope.
use Rattle.std.specs.Prelude.{◌≡◌, ℕ, List, [], ◌∷◌}
use Rattle.uc_tree.specs.Programs.{Program}
use Rattle.uc_tree.specs.Source.{Source, routine_of}
use Rattle.uc_entry.specs.declared.request.Answer.{Answer}
use Rattle.uc_machine.specs.Quiet.{State, Todo, ClearNow, quiet, first_state}
use Rattle.uc_machine.specs.Answering.{answered}
use Rattle.uc_resolve.specs.Resolve.{source_of}
use Rattle.uc_rules.specs.Breaks.{breaks_of}
use Rattle.uc_state_laws.specs.Rooms.{SourceIn}
use Rattle.uc_state_laws.specs.RoomStates.{RoomState, RoomStep, AllBefore}
use Rattle.uc_state_laws.specs.Layout.{Sized, AreNoReferences}

-- all code of a program keeps to its rooms
abbrev pub LawSource : Type 0
LawSource = (p : Program) → AreNoReferences p → SourceIn (Sized p) (source_of p)

-- so does the code of a program that breaks no rule
abbrev pub LawAccepted : Type 0
LawAccepted = (p : Program) → breaks_of p ≡ [] → SourceIn (Sized p) (source_of p)

-- of any source that keeps to its rooms: so does a task as it begins, and each step and each answer keep that
pub record LawSteps : Type 0 where
  pub begins : (source : Source) (p : Program) → SourceIn (Sized p) source → (r o : ℕ) →
      RoomState (Sized p) (first_state (routine_of source r) o)
  pub steps : (source : Source) (p : Program) → SourceIn (Sized p) source → (s : State) →
      RoomState (Sized p) s → RoomStep (Sized p) (quiet source s)
  pub told : (source : Source) (p : Program) (given : Answer) (s : State) → RoomState (Sized p) s →
      RoomState (Sized p) (answered source given s)

-- so what a step clears lies behind all objects in scope
abbrev pub LawClears : Type 0
LawClears =
    (p : Program) (s : State) → RoomState (Sized p) s → (k n : ℕ) (todo : List Todo) →
    s.run.control ≡ ClearNow k n ∷ todo → AllBefore (Sized p) k todo
