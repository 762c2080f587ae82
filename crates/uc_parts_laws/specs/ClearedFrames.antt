-- Where cells of the newest frame start anew, they lie behind the first cells of all coroutines there of which the executions are held.
use Rattle.std.specs.Prelude.{◌≡◌, ℕ, ◌<◌, Bool, true, List, [], ◌∷◌, length}
use Rattle.uc_tree.specs.Programs.{Program}
use Rattle.uc_tree.specs.Source.{shape_cells}
use Rattle.uc_machine.specs.declared.exec.Exec.{Exec}
use Rattle.uc_machine.specs.Pieces.{Todo, ClearNow, State}
use Rattle.uc_rules.specs.Breaks.{breaks_of}
use Rattle.uc_sound.specs.SoundFormed.{IsFormed}
use Rattle.uc_typing.specs.States.{Sound}
use Rattle.uc_state_laws.specs.Layout.{Sized}
use Rattle.uc_state_laws.specs.RoomStacks.{StackState}
use Rattle.uc_life_laws.specs.Held.{Seating, ClearsBehind}
use Rattle.uc_life_laws.specs.LifeRuns.{IsLaidOut}
use Rattle.uc_life_laws.specs.Things.{Few}
use Rattle.uc_putting_laws.specs.Putting.{Setting, PutState}
use Rattle.uc_putting_laws.specs.PuttingLaws.{setting_of}
use Rattle.uc_parts_laws.specs.Parts.{IsFree}

-- all code is of types, fields lie within the cells of their classes, and what has an execution has at least one cell
pub record IsLaid (p : Program) (g : Setting) : Type 0 where
  pub sound : Sound g.table g.source
  pub laid : IsLaidOut (Sized p) g.table
  pub cells : (c : ℕ) → g.table.executes c ≡ true → 0 < shape_cells (g.table.shape c)

-- so it is of each program that breaks no rule. Then first cells lie before those that start anew in a frame that is used by no activation which waits, where
-- it is known of operands what of them lies where, activations which use one frame stay behind one another, and no array is being built or destroyed
pub record LawClearedFrames : Type 0 where
  pub laid : (p : Program) → IsFormed p → breaks_of p ≡ [] → (few : Few) → IsLaid p (setting_of p few)
  pub clears : (p : Program) (g : Setting) → IsLaid p g → (seats : Seating) (up : Exec → Bool) (s : State) → PutState g s →
      StackState (Sized p) s → (k m : ℕ) (todo : List Todo) → s.run.control ≡ ClearNow k m ∷ todo → IsFree todo →
      (s.run.frame < length s.callers → ⊥) → ClearsBehind g.source seats up s k
