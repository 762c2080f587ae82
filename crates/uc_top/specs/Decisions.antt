-- What the parts of the top call find: of a program, of tokens, of a text, of the files.
use Rattle.std.specs.Prelude.{◌≡◌, ℕ, ◌≤◌, ◌⊎◌, List, [], length, codes, Option, Some, None}
use Rattle.uc_tree.specs.declared.limits.TheConstants.{NESTING, INPUT_BYTES, MAKE_MAX}
use Rattle.uc_tree.specs.declared.pos.Pos.{Pos}
use Rattle.uc_tree.specs.declared.token.Token.{Token}
use Rattle.uc_tree.specs.Programs.{Program}
use Rattle.uc_grammar.specs.Text.{IsProgram}
use Rattle.uc_acts.specs.Journal.{Journal}
use Rattle.uc_acts.specs.KernelRuns.{InRange}
use Rattle.uc_outside.specs.Reading.{StoreState, ReadFailed, ReadTooLong}
use Rattle.uc_outside.specs.Taking.{SinkState, Took}
use Rattle.uc_words.specs.Words.{Command, RunFile, CheckFile, LowerFile, MakeProgram, ExplainJournal}
use Rattle.uc_top.specs.Accepted.{IsAccepted}
use Rattle.uc_top.specs.declared.program.Purpose.{Purpose}
use Rattle.uc_top.specs.declared.program.Purpose.TheVariants.{Run, Check, Lower}
use Rattle.uc_top.specs.declared.endings.Ending.{Ending}
use Rattle.uc_top.specs.declared.refusals.Refusal.{Refusal}
use Rattle.uc_top.specs.declared.refusals.Refusal.TheVariants.{Word, CannotRead, TooLong, Lexical, Syntax, TooDeep, Broken, FrameTooLarge, CodeTooLarge, BadLine, NoMemory}
use Rattle.uc_top.specs.Endings.{ending_status, ending_text}
use Rattle.uc_top.specs.Accepted.{BreaksFirst, HasLargeFrame, HasLargeCode, HasFault, SyntaxFault, DeepFault, HasSyntaxFault, HasDeepFault, IsTextOf, place_of}
use Rattle.uc_top.specs.Commands.{ProgramRan, IsListingOf, RunsNothing, ReadsTexts}
use Rattle.uc_top.specs.Refusals.{err_line, HasBadLine, JournalUnread, JournalTooLong, JournalSuch, ProgramUnread, InputUnread, ProgramTooLong, InputTooLong}
use Rattle.uc_top.specs.Outcomes.{Failed, Tried}

-- a program is checked, and one is lowered

pub record Checked (program : Program) (journal : Journal) (output : List ℕ) (ending : Ending) : Type 0 where
  pub accepted : IsAccepted program
  pub runs : RunsNothing journal ending
  pub quiet : output ≡ []

pub record Listed (program : Program) (journal : Journal) (output : List ℕ) (ending : Ending) : Type 0 where
  pub listing : IsListingOf program output
  pub runs : RunsNothing journal ending

abbrev pub ProgramRefused : Program → Refusal → Type 0
ProgramRefused program (Word n) = ⊥
ProgramRefused program CannotRead = ⊥
ProgramRefused program TooLong = ⊥
ProgramRefused program (Lexical why pos) = ⊥
ProgramRefused program (Syntax pos) = ⊥
ProgramRefused program (TooDeep pos) = ⊥
ProgramRefused program (Broken rule pos) = BreaksFirst rule pos program
ProgramRefused program FrameTooLarge = HasLargeFrame program
ProgramRefused program CodeTooLarge = HasLargeCode program
ProgramRefused program (BadLine n) = ⊥
ProgramRefused program NoMemory = Unit {0}

-- the tokens are those of this program
abbrev pub AreOf : List Token → Program → Type 0
AreOf list program = IsProgram NESTING list 0 (length list) program

-- the tokens are those of one program, and it is such a one
pub record AreTokensOf (list : List Token) (Is : Program → Type 0) : Type 0 where
  pub program : Program
  pub spelled : AreOf list program
  pub only : (other : Program) → AreOf list other → other ≡ program
  pub is : Is program

abbrev pub HasEntries : Purpose → Type 0
HasEntries (Run opts too) = InRange opts
HasEntries Check = Unit {0}
HasEntries Lower = Unit {0}

-- what is done with an accepted program
abbrev pub ProgramDid : Purpose → Program → List ℕ → Journal → List ℕ → Ending → Type 0
ProgramDid (Run opts too) program input journal output ending = ProgramRan program input opts too journal output ending
ProgramDid Check program input journal output ending = Checked program journal output ending
ProgramDid Lower program input journal output ending = Listed program journal output ending

abbrev pub TokensDid : Purpose → List Token → List ℕ → Journal → List ℕ → Ending → Type 0
TokensDid purpose list input journal output ending = AreTokensOf list (λ program. ProgramDid purpose program input journal output ending)

abbrev pub TextDid : Purpose → List ℕ → List ℕ → Journal → List ℕ → Ending → Type 0
TextDid purpose text input journal output ending = IsTextOf text (λ program. ProgramDid purpose program input journal output ending)

-- at the token at this place the tokens of a text fail
pub record FailsAt (text : List ℕ) (list : List Token) (pos : Pos) (Is : ℕ → Type 0) : Type 0 where
  pub token : ℕ
  pub fault : Is token
  pub place : pos ≡ place_of text list token

abbrev pub TokensRefused : List ℕ → List Token → Refusal → Type 0
TokensRefused text list (Word n) = ⊥
TokensRefused text list CannotRead = ⊥
TokensRefused text list TooLong = ⊥
TokensRefused text list (Lexical why pos) = ⊥
TokensRefused text list (Syntax pos) = FailsAt text list pos (SyntaxFault list)
TokensRefused text list (TooDeep pos) = FailsAt text list pos (DeepFault list)
TokensRefused text list (Broken rule pos) = AreTokensOf list (BreaksFirst rule pos)
TokensRefused text list FrameTooLarge = AreTokensOf list HasLargeFrame
TokensRefused text list CodeTooLarge = AreTokensOf list HasLargeCode
TokensRefused text list (BadLine n) = ⊥
TokensRefused text list NoMemory = Unit {0}

abbrev pub TextRefused : List ℕ → Refusal → Type 0
TextRefused text (Word n) = ⊥
TextRefused text CannotRead = ⊥
TextRefused text TooLong = ⊥
TextRefused text (Lexical why pos) = HasFault text why pos
TextRefused text (Syntax pos) = HasSyntaxFault text pos
TextRefused text (TooDeep pos) = HasDeepFault text pos
TextRefused text (Broken rule pos) = IsTextOf text (BreaksFirst rule pos)
TextRefused text FrameTooLarge = IsTextOf text HasLargeFrame
TextRefused text CodeTooLarge = IsTextOf text HasLargeCode
TextRefused text (BadLine n) = ⊥
TextRefused text NoMemory = Unit {0}

-- why the bytes of a name were not read
abbrev pub NotRead : StoreState → StoreState → List ℕ → ℕ → Refusal → Type 0
NotRead before after name limit (Word n) = ⊥
NotRead before after name limit CannotRead = ReadFailed before after name
NotRead before after name limit TooLong = ReadTooLong before after name limit
NotRead before after name limit (Lexical why pos) = ⊥
NotRead before after name limit (Syntax pos) = ⊥
NotRead before after name limit (TooDeep pos) = ⊥
NotRead before after name limit (Broken rule pos) = ⊥
NotRead before after name limit FrameTooLarge = ⊥
NotRead before after name limit CodeTooLarge = ⊥
NotRead before after name limit (BadLine n) = ⊥
NotRead before after name limit NoMemory = after.count ≡ before.count

-- why the bytes of the input were not read
pub record InputNotRead (before after : StoreState) (named : Option (List ℕ)) (refusal : Refusal) (name : List ℕ) : Type 0 where
  pub is_named : named ≡ Some name
  pub fault : NotRead before after name INPUT_BYTES refusal

-- the files were read, and what is to be done with their program was done
pub record FilesDid (before after : StoreState) (file : List ℕ) (named : Option (List ℕ)) (purpose : Purpose) (journal : Journal) (output : List ℕ) (ending : Ending) : Type 0 where
  pub text : List ℕ
  pub input : List ℕ
  pub reads : ReadsTexts before after file named text input
  pub did : TextDid purpose text input journal output ending

-- the files were read, and this holds of the text
pub record FilesSuch (before after : StoreState) (file : List ℕ) (named : Option (List ℕ)) (Is : List ℕ → Type 0) : Type 0 where
  pub text : List ℕ
  pub input : List ℕ
  pub reads : ReadsTexts before after file named text input
  pub is : Is text

abbrev pub FilesRefused : StoreState → StoreState → List ℕ → Option (List ℕ) → Refusal → List ℕ → Type 0
FilesRefused before after file named (Word n) name = ⊥
FilesRefused before after file named CannotRead name = ProgramUnread before after file name ⊎ InputUnread before after file named name
FilesRefused before after file named TooLong name = ProgramTooLong before after file name ⊎ InputTooLong before after file named name
FilesRefused before after file named (Lexical why pos) name = FilesSuch before after file named (λ text. HasFault text why pos)
FilesRefused before after file named (Syntax pos) name = FilesSuch before after file named (λ text. HasSyntaxFault text pos)
FilesRefused before after file named (TooDeep pos) name = FilesSuch before after file named (λ text. HasDeepFault text pos)
FilesRefused before after file named (Broken rule pos) name = FilesSuch before after file named (λ text. IsTextOf text (BreaksFirst rule pos))
FilesRefused before after file named FrameTooLarge name = FilesSuch before after file named (λ text. IsTextOf text HasLargeFrame)
FilesRefused before after file named CodeTooLarge name = FilesSuch before after file named (λ text. IsTextOf text HasLargeCode)
FilesRefused before after file named (BadLine n) name = ⊥
FilesRefused before after file named NoMemory name = after.count ≡ before.count

-- why a text was not explained
abbrev pub JournalTextRefused : List ℕ → Refusal → Type 0
JournalTextRefused text (Word n) = ⊥
JournalTextRefused text CannotRead = ⊥
JournalTextRefused text TooLong = ⊥
JournalTextRefused text (Lexical why pos) = ⊥
JournalTextRefused text (Syntax pos) = ⊥
JournalTextRefused text (TooDeep pos) = ⊥
JournalTextRefused text (Broken rule pos) = ⊥
JournalTextRefused text FrameTooLarge = ⊥
JournalTextRefused text CodeTooLarge = ⊥
JournalTextRefused text (BadLine n) = HasBadLine text n
JournalTextRefused text NoMemory = Unit {0}

-- why a journal was not explained
abbrev pub JournalRefused : StoreState → StoreState → List ℕ → Refusal → List ℕ → Type 0
JournalRefused before after file (Word n) name = ⊥
JournalRefused before after file CannotRead name = JournalUnread before after file name
JournalRefused before after file TooLong name = JournalTooLong before after file name
JournalRefused before after file (Lexical why pos) name = ⊥
JournalRefused before after file (Syntax pos) name = ⊥
JournalRefused before after file (TooDeep pos) name = ⊥
JournalRefused before after file (Broken rule pos) name = ⊥
JournalRefused before after file FrameTooLarge name = ⊥
JournalRefused before after file CodeTooLarge name = ⊥
JournalRefused before after file (BadLine n) name = JournalSuch before after file (λ text. HasBadLine text n)
JournalRefused before after file NoMemory name = after.count ≡ before.count

-- why a command was not done

pub record NotMade (before after : StoreState) (refusal : Refusal) : Type 0 where
  pub is : refusal ≡ NoMemory
  pub unread : after ≡ before

abbrev pub CommandRefused : Command → StoreState → StoreState → Refusal → List ℕ → Type 0
CommandRefused (RunFile file opts too named) before after refusal name = FilesRefused before after file named refusal name
CommandRefused (CheckFile file) before after refusal name = FilesRefused before after file None refusal name
CommandRefused (LowerFile file) before after refusal name = FilesRefused before after file None refusal name
CommandRefused (MakeProgram n) before after refusal name = NotMade before after refusal
CommandRefused (ExplainJournal file object) before after refusal name = JournalRefused before after file refusal name

-- the numbers of a command are in their ranges
abbrev pub IsInRange : Command → Type 0
IsInRange (RunFile file opts too named) = InRange opts
IsInRange (CheckFile file) = Unit {0}
IsInRange (LowerFile file) = Unit {0}
IsInRange (MakeProgram n) = (1 ≤ n) × (n ≤ MAKE_MAX)
IsInRange (ExplainJournal file object) = Unit {0}

-- a run is told: out got what it printed and err the line of its ending, or one of them failed at it
pub data Finished (out out_after err err_after : SinkState) (output : List ℕ) (ending : Ending) : ℕ → Type 0 where
  whole : Took out out_after output → Took err err_after (ending_text ending) → Finished out out_after err err_after output ending (ending_status ending)
  out_failed : Failed out out_after output → Tried err err_after (err_line (codes "cannot write") []) → Finished out out_after err err_after output ending 4
  err_failed : Took out out_after output → Failed err err_after (ending_text ending) → Finished out out_after err err_after output ending 4
