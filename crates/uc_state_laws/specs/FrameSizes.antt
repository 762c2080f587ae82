-- Frames with no more cells than a number.
use Rattle.std.specs.Prelude.{ℕ, ◌≤◌, List, [], ◌∷◌, length, Option, Some, None, slice_get}
use Rattle.uc_tree.specs.Source.{Source, Routine}
use Rattle.uc_machine.specs.Executions.{Execution}
use Rattle.uc_machine.specs.Pieces.{Value, Todo, State, Env, Members, Step, Goes, Ticks, Asks}

abbrev pub Ex : Type 0
Ex = Execution (List Todo) Value

module _ (most : ℕ) where
  abbrev pub FramesFit : List (List Value) → Type 0
  FramesFit [] = Unit {0}
  FramesFit (f ∷ fs) = (length f ≤ most) × FramesFit fs

  -- an execution that does not run
  abbrev pub SlotFits : Option Ex → Type 0
  SlotFits None = Unit {0}
  SlotFits (Some x) = FramesFit x.frames

  abbrev pub ParkedFit : List (ℕ × Option Ex) → Type 0
  ParkedFit [] = Unit {0}
  ParkedFit (p ∷ ps) = SlotFits p.1 × ParkedFit ps

  abbrev pub HandFits : List (ℕ × Members) → Type 0
  HandFits [] = Unit {0}
  HandFits (p ∷ ps) = ParkedFit p.1.parked × HandFits ps

  abbrev pub MembersFit : Option Members → Type 0
  MembersFit None = Unit {0}
  MembersFit (Some m) = ParkedFit m.parked

  -- those of the execution that runs, of all that are at home in the task, and in the objects in its hand
  abbrev pub EnvFits : Env → Type 0
  EnvFits e = FramesFit e.frames × ParkedFit e.house.parked × HandFits e.hand

  abbrev pub StateFits : State → Type 0
  StateFits s = EnvFits s.env

  abbrev pub StepFits : Step → Type 0
  StepFits (Goes s) = StateFits s
  StepFits (Ticks s) = StateFits s
  StepFits (Asks r s) = StateFits s

  -- the frame of a routine is as large as it says, or as it has parameters
  pub record RoutineFits (r : Routine) : Type 0 where
    pub cells : r.cells ≤ most
    pub params : r.params ≤ most

  abbrev pub MaybeRoutineFits : Option Routine → Type 0
  MaybeRoutineFits None = Unit {0}
  MaybeRoutineFits (Some r) = RoutineFits r

  abbrev pub SourceFits : Source → Type 0
  SourceFits source = (n : ℕ) → MaybeRoutineFits (slice_get source.routines n)
