-- What the top call leaves, for each status.
use Rattle.std.specs.Prelude.{◌≡◌, ◌≢◌, ℕ, ◌<◌, List, [], ◌⊎◌, IsTrue, codes}
use Rattle.uc_tree.specs.declared.limits.TheConstants.{PROGRAM_BYTES, JOURNAL_BYTES}
use Rattle.uc_tree.specs.declared.pos.Pos.{Pos}
use Rattle.uc_tree.specs.declared.scan.LexicalFault.{LexicalFault}
use Rattle.uc_tree.specs.Programs.{Program}
use Rattle.uc_outside.specs.Faults.{CountRose}
use Rattle.uc_outside.specs.Reading.{StoreState, HasFile}
use Rattle.uc_outside.specs.Taking.{SinkState, Took, TookPrefix, FailedAt, HasRoom, Stopped}
use Rattle.uc_rules.specs.declared.rule.Rule.{Rule}
use Rattle.uc_acts.specs.Journal.{Journal}
use Rattle.uc_journal.specs.Lines as journals
use Rattle.uc_words.specs.Words.{Words, Command, RunFile, CheckFile, LowerFile, MakeProgram, ExplainJournal, IsLine}
use Rattle.uc_top.specs.declared.endings.Ending.{Ending}
use Rattle.uc_top.specs.declared.refusals.Refusal.{Refusal}
use Rattle.uc_top.specs.declared.refusals.Refusal.TheVariants as refusal
use Rattle.uc_top.specs.Endings.{ending_status, ending_text}
use Rattle.uc_top.specs.Accepted.{IsAcceptedText}
use Rattle.uc_top.specs.Commands.{HasInput, HasDone, IsOnFile, file_of, input_of}
use Rattle.uc_top.specs.Refusals.{status_of, err_line, refusal_text, Refuses}

-- a sink failed at this text and took a prefix of it, and no put was made after the failed one
pub record Failed (before after : SinkState) (text : List ℕ) : Type 0 where
  pub at : FailedAt before after text
  pub prefix : TookPrefix before after text

-- the text was taken whole, or the sink failed at it
abbrev pub Tried : SinkState → SinkState → List ℕ → Type 0
Tried before after text = Took before after text ⊎ Failed before after text

-- the words, and the store and the sinks before and after the call
pub record Scene : Type 0 where
  pub words : Words
  pub store : StoreState
  pub store_after : StoreState
  pub out : SinkState
  pub out_after : SinkState
  pub err : SinkState
  pub err_after : SinkState

-- the words ask for a command, and it was done: this is its journal, what out gets, and how it ends
abbrev pub Ran : Scene → Journal → List ℕ → Ending → Type 0
Ran s journal output ending = HasDone s.words s.store s.store_after journal output ending

-- nothing was run, for this reason, where this is the file that was not read
abbrev pub Refused : Scene → Refusal → List ℕ → Type 0
Refused s r name = Refuses s.words s.store s.store_after r name

-- the status and the journal of a call: what was run, what out and err got
pub data Leaves (s : Scene) : ℕ → Journal → Type 0 where
  -- the command was done: out got its output, and err the line of its ending
  ended : (journal : Journal) (output : List ℕ) (ending : Ending) → Ran s journal output ending → Took s.out s.out_after output → Took s.err s.err_after (ending_text ending) → Leaves s (ending_status ending) journal
  -- a refusal: out got nothing, and err its line
  refused : (r : Refusal) (name : List ℕ) → Refused s r name → Took s.out s.out_after [] → Took s.err s.err_after (refusal_text r name) → Leaves s (status_of r) []
  -- out failed at the output: it got a prefix, and the journal is the command's all the same
  out_failed : (journal : Journal) (output : List ℕ) (ending : Ending) → Ran s journal output ending → Failed s.out s.out_after output → Tried s.err s.err_after (err_line (codes "cannot write") []) → Leaves s 4 journal
  -- err failed at the line of the ending: out got the output
  line_failed : (journal : Journal) (output : List ℕ) (ending : Ending) → Ran s journal output ending → Took s.out s.out_after output → Failed s.err s.err_after (ending_text ending) → Leaves s 4 journal
  -- err failed at the line of a refusal: out got nothing
  err_failed : (r : Refusal) (name : List ℕ) → Refused s r name → Took s.out s.out_after [] → Failed s.err s.err_after (refusal_text r name) → Leaves s 4 []

-- What each status says.

-- the headline: the command that the words ask for was done, which says of `run` that the journal is a complete run of the accepted program that the store gave, over the input that it gave and under the options of the words, and the output what it printed, with the journal's text behind it where the words ask for it; out got the output, err the line of the ending, and the status is the ending's
pub record Completed (s : Scene) (status : ℕ) (journal : Journal) : Type 0 where
  pub output : List ℕ
  pub ending : Ending
  pub ran : Ran s journal output ending
  pub out : Took s.out s.out_after output
  pub err : Took s.err s.err_after (ending_text ending)
  pub is_status : status ≡ ending_status ending

-- nothing was run: the journal is empty, out got nothing, and err the line of the refusal
pub record Told (s : Scene) (r : Refusal) (journal : Journal) : Type 0 where
  pub name : List ℕ
  pub cause : Refused s r name
  pub empty : journal ≡ []
  pub out : Took s.out s.out_after []
  pub err : Took s.err s.err_after (refusal_text r name)

-- the status of an ending
abbrev pub OfEnding : ℕ → Type 0
OfEnding status = (status ≡ 0) ⊎ (status ≡ 5) ⊎ (status ≡ 6) ⊎ (status ≡ 7)

-- the refusals of texts
pub data OfText : Refusal → Type 0 where
  lexical : (why : LexicalFault) (pos : Pos) → OfText (refusal.Lexical why pos)
  syntax : (pos : Pos) → OfText (refusal.Syntax pos)
  deep : (pos : Pos) → OfText (refusal.TooDeep pos)
  broken : (rule : Rule) (pos : Pos) → OfText (refusal.Broken rule pos)
  large_frame : OfText refusal.FrameTooLarge
  large_code : OfText refusal.CodeTooLarge

-- the text is refused
pub record TextTold (s : Scene) (journal : Journal) : Type 0 where
  pub cause : Refusal
  pub told : Told s cause journal
  pub is : OfText cause

abbrev pub TooHigh : Scene → Type 0
TooHigh s = (s.out.count < s.out_after.count) ⊎ (s.err.count < s.err_after.count)

-- the causes of each status
pub record Causes (s : Scene) (status : ℕ) (journal : Journal) : Type 0 where
  pub ended : OfEnding status → Completed s status journal
  pub refused : status ≡ 1 → TextTold s journal
  pub bad_word : status ≡ 2 → (n : ℕ) × Told s (refusal.Word n) journal
  pub unread : status ≡ 3 → Told s refusal.CannotRead journal ⊎ Told s refusal.TooLong journal
  pub unwritten : status ≡ 4 → CountRose s.out.count s.out_after.count ⊎ CountRose s.err.count s.err_after.count
  pub counted : TooHigh s → status ≡ 4
  pub no_memory : status ≡ 8 → Told s refusal.NoMemory journal
  pub bad_line : status ≡ 10 → (n : ℕ) × Told s (refusal.BadLine n) journal
  pub no_other : OfEnding status ⊎ (status ≡ 1) ⊎ (status ≡ 2) ⊎ (status ≡ 3) ⊎ (status ≡ 4) ⊎ (status ≡ 8) ⊎ (status ≡ 10)

-- to neither sink a put was made after one of this call that failed
pub record Stops (s : Scene) : Type 0 where
  pub out : Stopped s.out s.out_after
  pub err : Stopped s.err s.err_after

-- a line of words on a file, over a store that tells the texts that the line names, within their lengths
pub record HasTexts (s : Scene) : Type 0 where
  pub command : Command
  pub line : IsLine s.words command
  pub on_file : IsOnFile command
  pub program : HasFile s.store (file_of command) PROGRAM_BYTES
  pub input : HasInput s.store (input_of command)

-- the statuses with which a command is done: those of endings for `run`, and 0 for the others
abbrev pub Finishes : Command → ℕ → Type 0
Finishes (RunFile file opts too named) status = OfEnding status
Finishes (CheckFile file) status = status ≡ 0
Finishes (LowerFile file) status = status ≡ 0
Finishes (MakeProgram n) status = status ≡ 0
Finishes (ExplainJournal file object) status = status ≡ 0

-- a line of words that asks to explain a journal, over a store that tells its text, within its length
pub record HasJournal (s : Scene) : Type 0 where
  pub file : List ℕ
  pub object : ℕ
  pub line : IsLine s.words (ExplainJournal file object)
  pub text : HasFile s.store file JOURNAL_BYTES

-- the text of that file is a journal's
abbrev pub IsJournal : (s : Scene) → HasJournal s → Journal → Type 0
IsJournal s h j = journals.IsTextOf h.text.bytes j

abbrev pub HasProgram : (s : Scene) → HasTexts s → Program → Type 0
HasProgram s h p = IsAcceptedText h.program.bytes p

-- what the words and the store make of a call, where memory may be wanting and a put may fail
pub record Answers (s : Scene) (status : ℕ) : Type 0 where
  -- words that are no line, and words that are one
  pub no_line : ((command : Command) → IsLine s.words command → ⊥) → (status ≡ 2) ⊎ (status ≡ 4)
  pub line : (command : Command) → IsLine s.words command → status ≢ 2
  -- a store that tells the named texts: a steady one gives them; the text is no accepted program, or one
  pub steady : HasTexts s → IsTrue s.store.steady → status ≢ 3
  pub no_program : (h : HasTexts s) → ((p : Program) → HasProgram s h p → ⊥) → (status ≡ 1) ⊎ (status ≡ 3) ⊎ (status ≡ 4) ⊎ (status ≡ 8)
  pub program : (h : HasTexts s) (p : Program) → HasProgram s h p → Finishes h.command status ⊎ (status ≡ 3) ⊎ (status ≡ 4) ⊎ (status ≡ 8)
  -- a generated program needs no text
  pub made : (n : ℕ) → IsLine s.words (MakeProgram n) → (status ≡ 0) ⊎ (status ≡ 4) ⊎ (status ≡ 8)
  -- a journal is explained, or its text has a line that is no entry's; a steady store that tells the text gives it
  pub explained : (h : HasJournal s) (j : Journal) → IsJournal s h j → (status ≡ 0) ⊎ (status ≡ 3) ⊎ (status ≡ 4) ⊎ (status ≡ 8)
  pub given : HasJournal s → IsTrue s.store.steady → status ≢ 3
  pub no_journal : (h : HasJournal s) → ((j : Journal) → IsJournal s h j → ⊥) → (status ≡ 10) ⊎ (status ≡ 3) ⊎ (status ≡ 4) ⊎ (status ≡ 8)

-- the sinks have room for all that may be put
pub record HaveRooms (s : Scene) : Type 0 where
  pub out : (journal : Journal) (output : List ℕ) (ending : Ending) → Ran s journal output ending → HasRoom s.out output
  pub line : (journal : Journal) (output : List ℕ) (ending : Ending) → Ran s journal output ending → HasRoom s.err (ending_text ending)
  pub err : (r : Refusal) (name : List ℕ) → Refused s r name → HasRoom s.err (refusal_text r name)

-- over a steady store that has the named texts, and sinks with room, an accepted program is run to its ending, checked or lowered, every text gets its answer, a program is generated, and a journal is explained or its bad line named
pub record Completes (s : Scene) (status : ℕ) : Type 0 where
  pub runs : (h : HasTexts s) → IsTrue s.store.steady → HaveRooms s → (p : Program) → HasProgram s h p → Finishes h.command status ⊎ (status ≡ 8)
  pub refuses : (h : HasTexts s) → IsTrue s.store.steady → HaveRooms s → ((p : Program) → HasProgram s h p → ⊥) → (status ≡ 1) ⊎ (status ≡ 8)
  pub makes : (n : ℕ) → IsLine s.words (MakeProgram n) → HaveRooms s → (status ≡ 0) ⊎ (status ≡ 8)
  pub explains : (h : HasJournal s) → IsTrue s.store.steady → HaveRooms s → (j : Journal) → IsJournal s h j → (status ≡ 0) ⊎ (status ≡ 8)
  pub names_line : (h : HasJournal s) → IsTrue s.store.steady → HaveRooms s → ((j : Journal) → IsJournal s h j → ⊥) → (status ≡ 10) ⊎ (status ≡ 8)

abbrev pub scene_of : Words → StoreState → StoreState → SinkState → SinkState → SinkState → SinkState → Scene
scene_of words store store_after out out_after err err_after = record {
  words = words;
  store = store;
  store_after = store_after;
  out = out;
  out_after = out_after;
  err = err;
  err_after = err_after;
}
