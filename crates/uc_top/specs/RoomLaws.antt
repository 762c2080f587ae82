-- How much room the sinks of a call need.
use Rattle.std.specs.Prelude.{ℕ, Bool, List, ◌≤◌, length, Option}
use Rattle.uc_tree.specs.Programs.{Program}
use Rattle.uc_resolve.specs.Resolve.{source_of}
use Rattle.uc_entry.specs.declared.entry.Options.{Options}
use Rattle.uc_acts.specs.Journal.{Journal}
use Rattle.uc_acts.specs.Fit.{AreFit}
use Rattle.uc_meaning.specs.Runs.{IsRun}
use Rattle.uc_outside.specs.Taking.{SinkState}
use Rattle.uc_words.specs.Words.{RunFile, CheckFile, MakeProgram, IsLine}
use Rattle.uc_top.specs.Rooms.{Holds}
use Rattle.uc_top.specs.Outcomes.{Scene, scene_of, HasTexts, HasProgram, HasJournal, IsJournal, HaveRooms}

-- there is a number of bytes such that any two sinks with room for so many have room for all that such a call may put
pub record RoomsExist (s : Scene) : Type 0 where
  pub most : ℕ
  pub enough : (out out_after err err_after : SinkState) → Holds out most → Holds err most → HaveRooms (scene_of s.words s.store s.store_after out out_after err err_after)

-- the words ask for `check`
pub record AsksCheck (s : Scene) : Type 0 where
  pub file : List ℕ
  pub line : IsLine s.words (CheckFile file)

-- the numbers of each complete run's entries are of their types, and the entries are no more than the options say
pub record HasFitRuns (program : Program) (opts : Options) : Type 0 where
  pub fit : (input : List ℕ) (journal : Journal) → IsRun (source_of program) input opts journal → AreFit journal
  pub few : (input : List ℕ) (journal : Journal) → IsRun (source_of program) input opts journal → length journal ≤ opts.entries

-- the words ask for a run under these options
pub record AsksRunOf (s : Scene) (opts : Options) : Type 0 where
  pub file : List ℕ
  pub too : Bool
  pub named : Option (List ℕ)
  pub line : IsLine s.words (RunFile file opts too named)

-- where the texts are told there are such numbers
pub record LawRooms : Type 0 where
  pub checks : (s : Scene) (h : HasTexts s) (p : Program) → HasProgram s h p → AsksCheck s → RoomsExist s
  pub runs : (s : Scene) (h : HasTexts s) (p : Program) (opts : Options) → HasProgram s h p → AsksRunOf s opts → HasFitRuns p opts → RoomsExist s
  pub makes : (s : Scene) (n : ℕ) → IsLine s.words (MakeProgram n) → RoomsExist s
  pub explains : (s : Scene) (h : HasJournal s) (j : Journal) → IsJournal s h j → RoomsExist s
