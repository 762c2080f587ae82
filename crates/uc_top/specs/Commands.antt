-- What commands ask for, and what each does.
use Rattle.std.specs.Prelude.{◌≡◌, ℕ, ◌*◌, ◌≤◌, Bool, true, false, List, [], ◌++◌, length, Option, Some, None}
use Rattle.uc_tree.specs.declared.limits.TheConstants.{PROGRAM_BYTES, INPUT_BYTES, JOURNAL_BYTES, OPS_FOR_SIZE}
use Rattle.uc_tree.specs.Programs.{Program}
use Rattle.uc_tree.specs.Numbering.{texts_of}
use Rattle.uc_tree.specs.Sizes.{program_size}
use Rattle.uc_resolve.specs.Resolve.{source_of}
use Rattle.uc_entry.specs.declared.entry.Options.{Options}
use Rattle.uc_acts.specs.Journal.{Journal}
use Rattle.uc_acts.specs.Texts as texts
use Rattle.uc_meaning.specs.Runs.{IsRun}
use Rattle.uc_outside.specs.Reading.{StoreState, KeepsFiles, ReadBytes, HasFile}
use Rattle.uc_words.specs.Words.{Words, Command, RunFile, CheckFile, LowerFile, MakeProgram, ExplainJournal, IsLine}
use Rattle.uc_code.specs.Codes.{Code}
use Rattle.uc_code.specs.Lowered.{Lowered}
use Rattle.uc_code.specs.Listing.{listing_of}
use Rattle.uc_lower_stmt.specs.SourceRows.{source_rows}
use Rattle.uc_lower.specs.RowRanges.{HasRows}
use Rattle.uc_make.specs.Generated.{generated}
use Rattle.uc_journal.specs.Lines as journals
use Rattle.uc_explain.specs.Explained.{explained}
use Rattle.uc_top.specs.declared.program.TheConstants.{LINE_BYTES}
use Rattle.uc_top.specs.declared.endings.Ending.{Ending}
use Rattle.uc_top.specs.declared.endings.Ending.TheVariants.{Done}
use Rattle.uc_top.specs.Endings.{EndsWith}
use Rattle.uc_top.specs.Accepted.{IsAccepted, IsTextOf}

-- what is done with an accepted program

-- the text of a journal, where it is asked for
abbrev pub told_text : Bool → Journal → List ℕ
told_text true journal = texts.text journal
told_text false journal = []

-- the program is accepted, the journal is a complete run of its source, and the output is what the journal prints, and behind it its text where that is asked for
pub record ProgramRan (program : Program) (input : List ℕ) (opts : Options) (too : Bool) (journal : Journal) (output : List ℕ) (ending : Ending) : Type 0 where
  pub accepted : IsAccepted program
  pub run : IsRun (source_of program) input opts journal
  pub ends : EndsWith journal ending
  pub prints : output ≡ texts.printed (texts_of program) journal ++ told_text too journal

-- the bytes of the listing of a program, at most: those of a line for each op, and of one for each row, of which there are no more
abbrev pub listing_room : Program → ℕ
listing_room program = LINE_BYTES * (2 * (OPS_FOR_SIZE * program_size program))

-- the program is accepted, and these bytes are the listing of code of it, which has so few ops as its `Size` allows, and as
-- many rows as its tree says
pub record IsListingOf (program : Program) (output : List ℕ) : Type 0 where
  pub accepted : IsAccepted program
  pub code : Code
  pub lowered : Lowered (source_of program) code
  pub few : length code.ops ≤ OPS_FOR_SIZE * program_size program
  pub count : length code.rows ≡ source_rows (source_of program)
  pub rows : HasRows code
  pub is : output ≡ listing_of code
  pub short : length output ≤ listing_room program

-- nothing was run, and all went well
pub record RunsNothing (journal : Journal) (ending : Ending) : Type 0 where
  pub empty : journal ≡ []
  pub done : ending ≡ Done

-- words and texts

-- the words are a line, which asks for just this
pub record Asks (words : Words) (command : Command) : Type 0 where
  pub line : IsLine words command
  pub only : (other : Command) → IsLine words other → other ≡ command

-- what a command names: its file, or its journal

abbrev pub file_of : Command → List ℕ
file_of (RunFile file opts too named) = file
file_of (CheckFile file) = file
file_of (LowerFile file) = file
file_of (MakeProgram n) = []
file_of (ExplainJournal file object) = file

abbrev pub input_of : Command → Option (List ℕ)
input_of (RunFile file opts too named) = named
input_of (CheckFile file) = None
input_of (LowerFile file) = None
input_of (MakeProgram n) = None
input_of (ExplainJournal file object) = None

-- it has the file of a program
abbrev pub IsOnFile : Command → Type 0
IsOnFile (RunFile file opts too named) = Unit {0}
IsOnFile (CheckFile file) = Unit {0}
IsOnFile (LowerFile file) = Unit {0}
IsOnFile (MakeProgram n) = ⊥
IsOnFile (ExplainJournal file object) = ⊥

-- the bytes of the input: those of the named file, or none where no file is named
pub record ReadsInput (before after : StoreState) (named : Option (List ℕ)) (input : List ℕ) : Type 0 where
  pub given : (name : List ℕ) → named ≡ Some name → ReadBytes before after name INPUT_BYTES input
  pub none : named ≡ None → input ≡ []

-- the bytes of the named file were read, and then those of the input
pub record ReadsTexts (before after : StoreState) (file : List ℕ) (named : Option (List ℕ)) (text input : List ℕ) : Type 0 where
  pub between : StoreState
  pub keeps : KeepsFiles before between
  pub read : ReadBytes before between file PROGRAM_BYTES text
  pub read_input : ReadsInput between after named input
  pub same_count : after.count ≡ before.count

-- the words ask for a command on a file, and the store gave the text and the input that it names
pub record GaveTexts (words : Words) (before after : StoreState) (command : Command) (text input : List ℕ) : Type 0 where
  pub asks : Asks words command
  pub on_file : IsOnFile command
  pub reads : ReadsTexts before after (file_of command) (input_of command) text input

-- the store has the input within its length, where one is named
abbrev pub HasInput : StoreState → Option (List ℕ) → Type 0
HasInput store named = (name : List ℕ) → named ≡ Some name → HasFile store name INPUT_BYTES

-- what each command does: its journal, what out gets, and how it ends

-- `run`: the text is that of one program, which is accepted, and the journal is a complete run of it over the input
pub record FilesRan (before after : StoreState) (file : List ℕ) (named : Option (List ℕ)) (opts : Options) (too : Bool) (journal : Journal) (output : List ℕ) (ending : Ending) : Type 0 where
  pub text : List ℕ
  pub input : List ℕ
  pub reads : ReadsTexts before after file named text input
  pub ran : IsTextOf text (λ program. ProgramRan program input opts too journal output ending)

-- `check`: the text is that of one program, which is accepted
pub record FileChecked (before after : StoreState) (file : List ℕ) (journal : Journal) (output : List ℕ) (ending : Ending) : Type 0 where
  pub text : List ℕ
  pub input : List ℕ
  pub reads : ReadsTexts before after file None text input
  pub checked : IsTextOf text IsAccepted
  pub runs : RunsNothing journal ending
  pub quiet : output ≡ []

-- `lower`: the text is that of one program, which is accepted, and the output is a listing of its code
pub record FileLowered (before after : StoreState) (file : List ℕ) (journal : Journal) (output : List ℕ) (ending : Ending) : Type 0 where
  pub text : List ℕ
  pub input : List ℕ
  pub reads : ReadsTexts before after file None text input
  pub lowered : IsTextOf text (λ program. IsListingOf program output)
  pub runs : RunsNothing journal ending

-- `make`: nothing is read, and the output is the generated program
pub record ProgramMade (before after : StoreState) (n : ℕ) (journal : Journal) (output : List ℕ) (ending : Ending) : Type 0 where
  pub unread : after ≡ before
  pub is : output ≡ generated n
  pub runs : RunsNothing journal ending

-- the text is that of one journal, and the output is the lines that explain it at the object
pub record TextExplained (text : List ℕ) (object : ℕ) (journal : Journal) (output : List ℕ) (ending : Ending) : Type 0 where
  pub entries : Journal
  pub reads : journals.IsTextOf text entries
  pub only : (other : Journal) → journals.IsTextOf text other → other ≡ entries
  pub is : output ≡ explained object entries
  pub runs : RunsNothing journal ending

-- `explain`: the bytes of the journal were read, and explained
pub record JournalExplained (before after : StoreState) (file : List ℕ) (object : ℕ) (journal : Journal) (output : List ℕ) (ending : Ending) : Type 0 where
  pub text : List ℕ
  pub read : ReadBytes before after file JOURNAL_BYTES text
  pub done : TextExplained text object journal output ending

abbrev pub CommandDid : Command → StoreState → StoreState → Journal → List ℕ → Ending → Type 0
CommandDid (RunFile file opts too named) before after journal output ending = FilesRan before after file named opts too journal output ending
CommandDid (CheckFile file) before after journal output ending = FileChecked before after file journal output ending
CommandDid (LowerFile file) before after journal output ending = FileLowered before after file journal output ending
CommandDid (MakeProgram n) before after journal output ending = ProgramMade before after n journal output ending
CommandDid (ExplainJournal file object) before after journal output ending = JournalExplained before after file object journal output ending

-- the words ask for a command, and it was done
pub record HasDone (words : Words) (before after : StoreState) (journal : Journal) (output : List ℕ) (ending : Ending) : Type 0 where
  pub command : Command
  pub asks : Asks words command
  pub did : CommandDid command before after journal output ending
