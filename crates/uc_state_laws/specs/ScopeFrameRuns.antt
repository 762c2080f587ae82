-- Runs of programs in which what a task declares lies in its frame, behind the objects of all activations that use that.
use Rattle.std.specs.Prelude.{◌≡◌, ℕ, List, [], ◌∷◌, Some, slice_get}
use Rattle.uc_tree.specs.Programs.{Program}
use Rattle.uc_tree.specs.Source.{Source, routine_of}
use Rattle.uc_entry.specs.declared.entry.Options.{Options}
use Rattle.uc_entry.specs.declared.request.Answer.{Answer}
use Rattle.uc_acts.specs.Journal.{Journal}
use Rattle.uc_machine.specs.Quiet.{Active, State, Todo, ClearNow, quiet, first_state}
use Rattle.uc_machine.specs.Answering.{answered}
use Rattle.uc_meaning.specs.Runs.{World, Runs}
use Rattle.uc_resolve.specs.Resolve.{source_of}
use Rattle.uc_rules.specs.Breaks.{breaks_of}
use Rattle.uc_state_laws.specs.Rooms.{SourceIn}
use Rattle.uc_state_laws.specs.RoomStacks.{UpTo, frame_cells, SomeTo, StackMembers, StackState, StackStep, FrameBefore, FrameBeneath}
use Rattle.uc_state_laws.specs.RoomRuns.{Comes}
use Rattle.uc_state_laws.specs.Layout.{Sized}

-- the rooms of each activation of a task end within the frame that it uses
abbrev pub InFrames : Program → State → Type 0
InFrames p s =
    (n : ℕ) (a : Active) → slice_get (s.run ∷ s.callers) n ≡ Some a →
    SomeTo (Sized p) (UpTo (frame_cells s.env.frames a.frame)) a.control

-- the cells that its next step clears lie behind the objects of all activations that use the frame
abbrev pub ClearsBehind : Program → State → Type 0
ClearsBehind p s =
    (k n : ℕ) (todo : List Todo) → s.run.control ≡ ClearNow k n ∷ todo →
    FrameBefore (Sized p) k s.run.frame (s.run ∷ s.callers)

-- and behind the room to which each activation that waits keeps next, if it uses the frame, so also behind what that builds there
abbrev pub ClearsBeyond : Program → State → Type 0
ClearsBeyond p s =
    (k n : ℕ) (todo : List Todo) → s.run.control ≡ ClearNow k n ∷ todo →
    FrameBeneath (Sized p) k s.run.frame s.callers

-- of any source that keeps to its rooms: all executions of a task begin in order, and each step and each answer keep that; then all rooms end
-- within their frames, and what a step clears lies behind the objects of all activations that use the frame
pub record LawFrames : Type 0 where
  pub begins : (source : Source) (p : Program) → SourceIn (Sized p) source → (r o : ℕ) →
      StackState (Sized p) (first_state (routine_of source r) o)
  pub steps : (source : Source) (p : Program) → SourceIn (Sized p) source → (s : State) →
      StackState (Sized p) s → StackStep (Sized p) (quiet source s)
  pub told : (source : Source) (p : Program) (given : Answer) (s : State) → StackState (Sized p) s →
      StackState (Sized p) (answered source given s)
  pub rooms : (p : Program) (s : State) → StackState (Sized p) s → InFrames p s
  pub clears : (p : Program) (s : State) → StackState (Sized p) s → ClearsBehind p s
  pub beneath : (p : Program) (s : State) → StackState (Sized p) s → ClearsBeyond p s

-- so it is in each run of a program that breaks no rule: of each task at rest, of what is at home in each object, and in all states to which
-- whoever runs comes
pub record KeepsFrames (p : Program) (j : Journal) (w : World) : Type 0 where
  pub tasks : (t : ℕ) → StackState (Sized p) (w.tasks t)
  pub homes : (o : ℕ) → StackMembers (Sized p) (w.homes o)
  pub comes : (t : ℕ) (s : State) → Comes (source_of p) j w t s → StackState (Sized p) s
  pub rooms : (t : ℕ) (s : State) → Comes (source_of p) j w t s → InFrames p s
  pub clears : (t : ℕ) (s : State) → Comes (source_of p) j w t s → ClearsBehind p s
  pub beneath : (t : ℕ) (s : State) → Comes (source_of p) j w t s → ClearsBeyond p s

abbrev pub LawFrameRuns : Type 0
LawFrameRuns = (p : Program) → breaks_of p ≡ [] →
    (input : List ℕ) (opts : Options) (j : Journal) (w : World) → Runs (source_of p) input opts j w →
    KeepsFrames p j w
