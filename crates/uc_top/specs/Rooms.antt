-- Sinks with room for all that a call may put.
use Rattle.std.specs.Prelude.{◌≡◌, ℕ, ◌≤◌, List, [], length, Some, IsTrue}
use Rattle.uc_tree.specs.Programs.{Program}
use Rattle.uc_outside.specs.Taking.{SinkState}
use Rattle.uc_words.specs.Words.{LowerFile}
use Rattle.uc_top.specs.declared.refusals.Refusal.TheVariants.{NoMemory}
use Rattle.uc_top.specs.Commands.{listing_room}
use Rattle.uc_top.specs.Refusals.{refusal_text}
use Rattle.uc_top.specs.Outcomes.{Scene, HasTexts, HasProgram, HaveRooms}

-- the sink has a room of so many bytes or more
pub record Holds (sink : SinkState) (bytes : ℕ) : Type 0 where
  pub left : ℕ
  pub is_room : sink.room ≡ Some left
  pub fits : bytes ≤ left

-- to lower an accepted program, over a steady store that has its text, sinks have room where out holds a listing of it, as long as one
-- may be, and err the line of want of memory
abbrev pub LowerHasRoom : Type 0
LowerHasRoom = (s : Scene) (h : HasTexts s) (file : List ℕ) (p : Program) → h.command ≡ LowerFile file → IsTrue s.store.steady → HasProgram s h p → Holds s.out (listing_room p) → Holds s.err (length (refusal_text NoMemory [])) → HaveRooms s
