-- What the last entry of a call's journal and its status say of each other.
use Rattle.std.specs.Prelude.{◌≡◌, ◌≢◌, ◌⊎◌, ℕ, Bool, List, [], ◌∷◌, ◌++◌, Option}
use Rattle.uc_entry.specs.declared.entry.Entry.{Entry}
use Rattle.uc_entry.specs.declared.entry.EntryKind.{EntryKind}
use Rattle.uc_entry.specs.declared.entry.EntryKind.TheVariants as kind
use Rattle.uc_entry.specs.declared.entry.Options.{Options}
use Rattle.uc_acts.specs.Journal.{Journal}
use Rattle.uc_words.specs.Words.{RunFile, IsLine}
use Rattle.uc_top.specs.declared.endings.Ending.{Ending}
use Rattle.uc_top.specs.Commands.{Asks, FilesRan}
use Rattle.uc_top.specs.Outcomes.{Scene}

-- the journal has a last entry, of this kind
pub record LastIs (journal : Journal) (k : EntryKind) : Type 0 where
  pub before : Journal
  pub last : Entry
  pub is : journal ≡ before ++ last ∷ []
  pub of_kind : last.kind ≡ k

-- the words ask for `run`, the store gave the texts, and the journal is a complete run of the program
pub record WasRun (s : Scene) (journal : Journal) : Type 0 where
  pub file : List ℕ
  pub opts : Options
  pub too : Bool
  pub named : Option (List ℕ)
  pub asks : Asks s.words (RunFile file opts too named)
  pub output : List ℕ
  pub ending : Ending
  pub ran : FilesRan s.store s.store_after file named opts too journal output ending

-- the words ask for `run`
pub record AsksRun (s : Scene) : Type 0 where
  pub file : List ℕ
  pub opts : Options
  pub too : Bool
  pub named : Option (List ℕ)
  pub line : IsLine s.words (RunFile file opts too named)

-- a journal is a run's, and each of 5, 6 and 7, and of `run` 0, comes exactly where its last entry says so and no put failed
pub record JournalAnswers (s : Scene) (status : ℕ) (journal : Journal) : Type 0 where
  -- a journal that is not empty is a complete run, whatever the status is
  pub run : journal ≢ [] → WasRun s journal
  -- from the last entry to the status
  pub done : LastIs journal kind.Done → (status ≡ 0) ⊎ (status ≡ 4)
  pub fault : LastIs journal kind.Fault → (status ≡ 5) ⊎ (status ≡ 4)
  pub deadlock : LastIs journal kind.Deadlock → (status ≡ 6) ⊎ (status ≡ 4)
  pub no_processor : LastIs journal kind.NoProcessor → (status ≡ 6) ⊎ (status ≡ 4)
  pub limit : LastIs journal kind.Limit → (status ≡ 7) ⊎ (status ≡ 4)
  -- and back
  pub by_done : AsksRun s → status ≡ 0 → LastIs journal kind.Done
  pub by_fault : status ≡ 5 → LastIs journal kind.Fault
  pub by_stop : status ≡ 6 → LastIs journal kind.Deadlock ⊎ LastIs journal kind.NoProcessor
  pub by_limit : status ≡ 7 → LastIs journal kind.Limit
