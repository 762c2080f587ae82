-- The words of a command line: which are a line, what a line asks for, and the first word at fault.
use Rattle.std.specs.Prelude.{◌≡◌, ℕ, ◌+◌, ◌-◌, ◌<◌, ◌≤◌, ◌==◌, Bool, true, false, not, if◌then◌else◌, List, [], ◌∷◌, ◌++◌, length, take, codes, slice_index, EachIndex, IsTrue, Option, Some, None, unwrap_or, option_to_list, flat_map, filter_map}
use Rattle.uc_tree.specs.Bytes.{is_digit}
use Rattle.uc_tree.specs.Tokens.{value_of}
use Rattle.uc_tree.specs.declared.limits.TheConstants.{PROCESSORS_MIN, PROCESSORS, PROCESSORS_DEFAULT, SLICE_MIN, SLICE_MAX, SLICE_DEFAULT, TICKS_MIN, TICKS_MAX, TICKS_DEFAULT, ENTRIES_MIN, ENTRIES_MAX, ENTRIES_DEFAULT, MAKE_MAX, OBJECTS}
use Rattle.uc_entry.specs.declared.entry.Options.{Options}
use Rattle.uc_words.specs.declared.numbers.NumberOption.{NumberOption}
use Rattle.uc_words.specs.declared.numbers.NumberOption.TheVariants.{Processors, Slice, Ticks, Entries}

abbrev pub Words : Type 0
Words = List (List ℕ)

-- a name: it is not empty and does not begin with `-`
abbrev pub is_name : List ℕ → Bool
is_name [] = false
is_name (b ∷ bs) = not (b == 45)

-- not empty, and more than one digit do not begin with `0`
abbrev pub is_plain : List ℕ → Bool
is_plain [] = false
is_plain (b ∷ []) = true
is_plain (b ∷ (c ∷ bs)) = not (b == 48)

-- the word is a number from `least` to `most`: decimal digits with no sign and no leading zero
pub record IsValue (least most : ℕ) (word : List ℕ) (n : ℕ) : Type 0 where
  pub digits : EachIndex word (λ k. IsTrue (is_digit (slice_index word k)))
  pub plain : IsTrue (is_plain word)
  pub value : n ≡ value_of word
  pub low : least ≤ n
  pub high : n ≤ most

-- the options that have a number

abbrev pub option_word : NumberOption → List ℕ
option_word Processors = codes "--processors"
option_word Slice = codes "--slice"
option_word Ticks = codes "--ticks"
option_word Entries = codes "--entries"

-- the least number that each takes, and the greatest
abbrev pub least_of : NumberOption → ℕ
least_of Processors = PROCESSORS_MIN
least_of Slice = SLICE_MIN
least_of Ticks = TICKS_MIN
least_of Entries = ENTRIES_MIN

abbrev pub most_of : NumberOption → ℕ
most_of Processors = PROCESSORS
most_of Slice = SLICE_MAX
most_of Ticks = TICKS_MAX
most_of Entries = ENTRIES_MAX

abbrev pub same_option : NumberOption → NumberOption → Bool
same_option Processors Processors = true
same_option Slice Slice = true
same_option Ticks Ticks = true
same_option Entries Entries = true
same_option _ _ = false

-- what may stand behind `run`: its file, or an option; a number stands beside its word
pub data Piece : Type 0 where
  File : List ℕ → Piece
  Number : NumberOption → List ℕ → ℕ → Piece
  Journal : Piece
  Input : List ℕ → Piece

-- the words of a piece
abbrev pub spelled : Piece → Words
spelled (File name) = name ∷ []
spelled (Number option word n) = option_word option ∷ (word ∷ [])
spelled Journal = codes "--journal" ∷ []
spelled (Input name) = codes "--input" ∷ (name ∷ [])

-- names are names, and numbers are in their range
abbrev pub IsPiece : Piece → Type 0
IsPiece (File name) = IsTrue (is_name name)
IsPiece (Number option word n) = IsValue (least_of option) (most_of option) word n
IsPiece Journal = Unit {0}
IsPiece (Input name) = IsTrue (is_name name)

abbrev pub ArePieces : List Piece → Type 0
ArePieces [] = Unit {0}
ArePieces (p ∷ ps) = IsPiece p × ArePieces ps

-- what a piece gives of each kind

abbrev pub file_in : Piece → Option (List ℕ)
file_in (File name) = Some name
file_in (Number option word n) = None
file_in Journal = None
file_in (Input name) = None

abbrev pub number_in : NumberOption → Piece → Option ℕ
number_in option (File name) = None
number_in option (Number other word n) = if same_option option other then Some n else None
number_in option Journal = None
number_in option (Input name) = None

abbrev pub journal_in : Piece → Option Bool
journal_in (File name) = None
journal_in (Number option word n) = None
journal_in Journal = Some true
journal_in (Input name) = None

abbrev pub input_in : Piece → Option (List ℕ)
input_in (File name) = None
input_in (Number option word n) = None
input_in Journal = None
input_in (Input name) = Some name

-- once where it holds
abbrev pub once_if : Bool → List Bool
once_if true = true ∷ []
once_if false = []

-- the numbers that the options of a line give, where they do
pub record Numbers : Type 0 where
  pub processors : Option ℕ
  pub slice : Option ℕ
  pub ticks : Option ℕ
  pub entries : Option ℕ

abbrev pub number_of_option : Numbers → NumberOption → Option ℕ
number_of_option ns Processors = ns.processors
number_of_option ns Slice = ns.slice
number_of_option ns Ticks = ns.ticks
number_of_option ns Entries = ns.entries

-- the options of a run, each its default where no number is given
abbrev pub options_with : Numbers → Options
options_with ns = record {
  processors = unwrap_or ns.processors PROCESSORS_DEFAULT;
  slice = unwrap_or ns.slice SLICE_DEFAULT;
  ticks = unwrap_or ns.ticks TICKS_DEFAULT;
  entries = unwrap_or ns.entries ENTRIES_DEFAULT;
}

-- a line `run`: behind it stand pieces in any order, one of them a file and at most one of each option
pub record IsRunLine (words : Words) (file : List ℕ) (opts : Options) (journal : Bool) (input : Option (List ℕ)) : Type 0 where
  pub pieces : List Piece
  pub numbers : Numbers
  pub spells : words ≡ codes "run" ∷ flat_map spelled pieces
  pub fit : ArePieces pieces
  pub one_file : filter_map file_in pieces ≡ file ∷ []
  pub one_number : (option : NumberOption) → filter_map (number_in option) pieces ≡ option_to_list (number_of_option numbers option)
  pub one_journal : filter_map journal_in pieces ≡ once_if journal
  pub one_input : filter_map input_in pieces ≡ option_to_list input
  pub options : opts ≡ options_with numbers

-- a line of a command and a file
pub record IsFileLine (command : List ℕ) (words : Words) (file : List ℕ) : Type 0 where
  pub spells : words ≡ command ∷ (file ∷ [])
  pub name : IsTrue (is_name file)

-- a line `make`
pub record IsMakeLine (words : Words) (n : ℕ) : Type 0 where
  pub word : List ℕ
  pub spells : words ≡ codes "make" ∷ (word ∷ [])
  pub value : IsValue 1 MAKE_MAX word n

-- a line `explain`: a journal, and the number of an object
pub record IsExplainLine (words : Words) (journal : List ℕ) (object : ℕ) : Type 0 where
  pub word : List ℕ
  pub spells : words ≡ codes "explain" ∷ (journal ∷ (word ∷ []))
  pub name : IsTrue (is_name journal)
  pub value : IsValue 0 (OBJECTS - 1) word object

-- what a line asks for
pub data Command : Type 0 where
  -- to run a file under these options, to put its journal too or not, with the named input
  RunFile : List ℕ → Options → Bool → Option (List ℕ) → Command
  -- to check a file
  CheckFile : List ℕ → Command
  -- to lower a file
  LowerFile : List ℕ → Command
  -- to make the program of so many tasks
  MakeProgram : ℕ → Command
  -- to explain a journal at an object
  ExplainJournal : List ℕ → ℕ → Command

-- the words are a line of the table, and this is what it asks for
abbrev pub IsLine : Words → Command → Type 0
IsLine words (RunFile file opts journal input) = IsRunLine words file opts journal input
IsLine words (CheckFile file) = IsFileLine (codes "check") words file
IsLine words (LowerFile file) = IsFileLine (codes "lower") words file
IsLine words (MakeProgram n) = IsMakeLine words n
IsLine words (ExplainJournal journal object) = IsExplainLine words journal object

-- some line begins with these words
pub record Begins (words : Words) : Type 0 where
  pub rest : Words
  pub command : Command
  pub line : IsLine (words ++ rest) command

-- the number of the first word such that no line begins with the words up to it, from 1; or one past the last, where a line begins with the words but they are none
pub record IsFirstBad (words : Words) (number : ℕ) : Type 0 where
  pub within : number ≤ length words + 1
  pub before : (k : ℕ) → k < number → Begins (take k words)
  pub bad : number ≤ length words → Begins (take number words) → ⊥
  pub no_line : (command : Command) → IsLine words command → ⊥
