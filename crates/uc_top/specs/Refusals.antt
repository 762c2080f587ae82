-- The status and the text of a refusal, and its cause.
use Rattle.std.specs.Prelude.{◌≡◌, ℕ, ◌⊎◌, List, [], ◌∷◌, codes, decimal, Option, Some}
use Rattle.std.specs.List.{concat}
use Rattle.uc_tree.specs.declared.pos.Pos.{Pos}
use Rattle.uc_tree.specs.declared.scan.LexicalFault.{LexicalFault}
use Rattle.uc_tree.specs.declared.scan.LexicalFault.TheVariants as reason
use Rattle.uc_tree.specs.declared.limits.TheConstants.{PROGRAM_BYTES, INPUT_BYTES, JOURNAL_BYTES}
use Rattle.uc_rules.specs.RuleNames.{rule_name}
use Rattle.uc_outside.specs.Reading.{StoreState, KeepsFiles, ReadBytes, ReadFailed, ReadTooLong}
use Rattle.uc_acts.specs.Journal.{Journal}
use Rattle.uc_journal.specs.Lines as journals
use Rattle.uc_words.specs.Words.{Words, Command, ExplainJournal, IsFirstBad}
use Rattle.uc_top.specs.declared.refusals.Refusal.{Refusal}
use Rattle.uc_top.specs.declared.refusals.Refusal.TheVariants.{Word, CannotRead, TooLong, Lexical, Syntax, TooDeep, Broken, FrameTooLarge, CodeTooLarge, BadLine, NoMemory}
use Rattle.uc_top.specs.Accepted.{HasFault, HasSyntaxFault, HasDeepFault, BreaksFirst, IsTextOf, HasLargeFrame, HasLargeCode}
use Rattle.uc_top.specs.Commands.{Asks, IsOnFile, file_of, input_of, GaveTexts}

abbrev pub status_of : Refusal → ℕ
status_of (Word n) = 2
status_of CannotRead = 3
status_of TooLong = 3
status_of (Lexical why pos) = 1
status_of (Syntax pos) = 1
status_of (TooDeep pos) = 1
status_of (Broken rule pos) = 1
status_of FrameTooLarge = 1
status_of CodeTooLarge = 1
status_of (BadLine n) = 10
status_of NoMemory = 8

-- a line on err: a reason and its detail
abbrev pub err_line : List ℕ → List ℕ → List ℕ
err_line reason detail = concat (codes "ucpp: " ∷ (reason ∷ (detail ∷ (codes "\n" ∷ []))))

-- the same with a place of the text before the reason
abbrev pub placed_line : Pos → List ℕ → List ℕ
placed_line pos reason =
    concat (codes "ucpp: " ∷ (decimal pos.line ∷ (codes ":" ∷ (decimal pos.col ∷ (codes ": " ∷ (reason ∷ (codes "\n" ∷ [])))))))

-- why a text has no tokens
abbrev pub lexical_reason : LexicalFault → List ℕ
lexical_reason reason.BadByte = codes "bad byte"
lexical_reason reason.OpenComment = codes "comment not closed"
lexical_reason reason.OpenText = codes "text not closed"
lexical_reason reason.NumberTooWide = codes "number too wide"
lexical_reason (reason.TextTooLong n) = codes "text too long"

-- what a refusal says, where this is the file that was not read
abbrev pub refusal_text : Refusal → List ℕ → List ℕ
refusal_text (Word n) name = err_line (codes "word ") (decimal n)
refusal_text CannotRead name = err_line (codes "cannot read ") name
refusal_text TooLong name = err_line (codes "too long ") name
refusal_text (Lexical why pos) name = placed_line pos (lexical_reason why)
refusal_text (Syntax pos) name = placed_line pos (codes "syntax")
refusal_text (TooDeep pos) name = placed_line pos (codes "too deep")
refusal_text (Broken rule pos) name = placed_line pos (rule_name rule)
refusal_text FrameTooLarge name = err_line (codes "frame too large") []
refusal_text CodeTooLarge name = err_line (codes "code too large") []
refusal_text (BadLine n) name = err_line (codes "journal line ") (decimal n)
refusal_text NoMemory name = err_line (codes "out of memory") []

-- texts that were not read

-- the file of the program could not be read
pub record ProgramUnread (before after : StoreState) (file : List ℕ) (name : List ℕ) : Type 0 where
  pub is_named : name ≡ file
  pub failed : ReadFailed before after name

-- the program was read, and its input could not be
pub record InputUnread (before after : StoreState) (file : List ℕ) (named : Option (List ℕ)) (name : List ℕ) : Type 0 where
  pub is_named : named ≡ Some name
  pub text : List ℕ
  pub between : StoreState
  pub keeps : KeepsFiles before between
  pub read : ReadBytes before between file PROGRAM_BYTES text
  pub failed : ReadFailed between after name

-- the file of the program is longer than a text may be
pub record ProgramTooLong (before after : StoreState) (file : List ℕ) (name : List ℕ) : Type 0 where
  pub is_named : name ≡ file
  pub long : ReadTooLong before after name PROGRAM_BYTES

-- the program was read, and its input is longer than an input may be
pub record InputTooLong (before after : StoreState) (file : List ℕ) (named : Option (List ℕ)) (name : List ℕ) : Type 0 where
  pub is_named : named ≡ Some name
  pub text : List ℕ
  pub between : StoreState
  pub keeps : KeepsFiles before between
  pub read : ReadBytes before between file PROGRAM_BYTES text
  pub long : ReadTooLong between after name INPUT_BYTES

-- journals that were not read

-- the file of the journal could not be read
pub record JournalUnread (before after : StoreState) (file : List ℕ) (name : List ℕ) : Type 0 where
  pub is_named : name ≡ file
  pub failed : ReadFailed before after file

-- it is longer than a journal's text may be
pub record JournalTooLong (before after : StoreState) (file : List ℕ) (name : List ℕ) : Type 0 where
  pub is_named : name ≡ file
  pub long : ReadTooLong before after file JOURNAL_BYTES

-- the text is that of no journal, and this is the first line, from 1, that is no entry's
pub record HasBadLine (text : List ℕ) (number : ℕ) : Type 0 where
  pub first : journals.IsFirstBadLine text number
  pub none : (journal : Journal) → journals.IsTextOf text journal → ⊥

-- the bytes of the journal were read, and this holds of them
pub record JournalSuch (before after : StoreState) (file : List ℕ) (Is : List ℕ → Type 0) : Type 0 where
  pub text : List ℕ
  pub read : ReadBytes before after file JOURNAL_BYTES text
  pub is : Is text

-- the words ask to explain a journal, of which this holds
pub record Explains (words : Words) (Is : List ℕ → Type 0) : Type 0 where
  pub file : List ℕ
  pub object : ℕ
  pub asks : Asks words (ExplainJournal file object)
  pub is : Is file

-- the words ask for a command on a file, and its file or its input could not be read
pub record IsUnread (words : Words) (before after : StoreState) (name : List ℕ) : Type 0 where
  pub command : Command
  pub asks : Asks words command
  pub on_file : IsOnFile command
  pub unread : ProgramUnread before after (file_of command) name ⊎ InputUnread before after (file_of command) (input_of command) name

-- the same, and one of them is too long
pub record IsTooLong (words : Words) (before after : StoreState) (name : List ℕ) : Type 0 where
  pub command : Command
  pub asks : Asks words command
  pub on_file : IsOnFile command
  pub long : ProgramTooLong before after (file_of command) name ⊎ InputTooLong before after (file_of command) (input_of command) name

-- the store gave a text of which this holds
pub record GaveSuch (words : Words) (before after : StoreState) (Is : List ℕ → Type 0) : Type 0 where
  pub command : Command
  pub text : List ℕ
  pub input : List ℕ
  pub gave : GaveTexts words before after command text input
  pub is : Is text

-- the words are no line, and nothing was read
pub record HasBadWord (words : Words) (before after : StoreState) (number : ℕ) : Type 0 where
  pub first : IsFirstBad words number
  pub unread : after ≡ before

-- memory was refused to a line of words, and no read failed
pub record HasNoMemory (words : Words) (before after : StoreState) : Type 0 where
  pub command : Command
  pub asks : Asks words command
  pub same_count : after.count ≡ before.count

-- the cause of a refusal
abbrev pub Refuses : Words → StoreState → StoreState → Refusal → List ℕ → Type 0
Refuses words before after (Word n) name = HasBadWord words before after n
Refuses words before after CannotRead name = IsUnread words before after name ⊎ Explains words (λ file. JournalUnread before after file name)
Refuses words before after TooLong name = IsTooLong words before after name ⊎ Explains words (λ file. JournalTooLong before after file name)
Refuses words before after (Lexical why pos) name = GaveSuch words before after (λ text. HasFault text why pos)
Refuses words before after (Syntax pos) name = GaveSuch words before after (λ text. HasSyntaxFault text pos)
Refuses words before after (TooDeep pos) name = GaveSuch words before after (λ text. HasDeepFault text pos)
Refuses words before after (Broken rule pos) name = GaveSuch words before after (λ text. IsTextOf text (BreaksFirst rule pos))
Refuses words before after FrameTooLarge name = GaveSuch words before after (λ text. IsTextOf text HasLargeFrame)
Refuses words before after CodeTooLarge name = GaveSuch words before after (λ text. IsTextOf text HasLargeCode)
Refuses words before after (BadLine n) name = Explains words (λ file. JournalSuch before after file (λ text. HasBadLine text n))
Refuses words before after NoMemory name = HasNoMemory words before after
