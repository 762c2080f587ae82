-- The words behind `run` from one of them on, where some pieces were told before.
use Rattle.std.specs.Prelude.{◌≡◌, ℕ, suc, ◌+◌, ◌<◌, ◌≤◌, Bool, true, false, if◌then◌else◌, List, ◌++◌, length, take, Option, Some, None, option_copied, option_to_list, flat_map, filter_map}
use Rattle.uc_words.specs.Words.{Words, Piece, Command, RunFile, CheckFile, LowerFile, MakeProgram, ExplainJournal, Numbers, number_of_option, spelled, ArePieces, file_in, number_in, journal_in, input_in, once_if, options_with}
use Rattle.uc_words.specs.declared.numbers.NumberOption.{NumberOption}
use Rattle.uc_words.specs.declared.numbers.NumberOption.TheVariants.{Processors, Slice, Ticks, Entries}
use Rattle.uc_words.specs.declared.job.Job.{Job}
use Rattle.uc_words.specs.declared.job.Job.TheVariants.{Run, Check, Lower, Make, Explain}
use Rattle.uc_words.specs.declared.job.WordsFault.{WordsFault}
use Rattle.uc_words.specs.declared.job.WordsFault.TheVariants.{Word}
use Rattle.uc_words.specs.declared.told.RunOptions.{RunOptions}

-- what a job says
abbrev pub command_of : Job → Command
command_of (Run file opts journal input) = RunFile file.now opts journal (option_copied input)
command_of (Check file) = CheckFile file.now
command_of (Lower file) = LowerFile file.now
command_of (Make n) = MakeProgram n
command_of (Explain journal object) = ExplainJournal journal.now object

-- the word that a fault names
abbrev pub number_of : WordsFault → ℕ
number_of (Word number) = number

-- what pieces told
pub record Parts : Type 0 where
  pub file : Option (List ℕ)
  pub numbers : Numbers
  pub journal : Bool
  pub input : Option (List ℕ)

abbrev pub parts_of : RunOptions → Parts
parts_of t = record {
  file = option_copied t.file;
  numbers = record { processors = t.processors; slice = t.slice; ticks = t.ticks; entries = t.entries };
  journal = t.journal;
  input = option_copied t.input;
}

abbrev pub nothing : Parts
nothing = record {
  file = None;
  numbers = record { processors = None; slice = None; ticks = None; entries = None };
  journal = false;
  input = None;
}

abbrev pub with_file : Parts → List ℕ → Parts
with_file p name = record p { file = Some name }

abbrev pub numbers_with : Numbers → NumberOption → ℕ → Numbers
numbers_with ns Processors n = record ns { processors = Some n }
numbers_with ns Slice n = record ns { slice = Some n }
numbers_with ns Ticks n = record ns { ticks = Some n }
numbers_with ns Entries n = record ns { entries = Some n }

abbrev pub with_number : Parts → NumberOption → ℕ → Parts
with_number p option n = record p { numbers = numbers_with p.numbers option n }

abbrev pub with_journal : Parts → Parts
with_journal p = record p { journal = true }

abbrev pub with_input : Parts → List ℕ → Parts
with_input p name = record p { input = Some name }

abbrev pub worth : {A : Type 0} → Option A → ℕ → ℕ
worth None n = 0
worth (Some x) n = n

-- how many words told the numbers
abbrev pub words_of_numbers : Numbers → ℕ
words_of_numbers ns = worth ns.processors 2 + (worth ns.slice 2 + (worth ns.ticks 2 + worth ns.entries 2))

-- how many words told all parts, with `run`
abbrev pub words_of : Parts → ℕ
words_of p = 1 + (worth p.file 1 + (words_of_numbers p.numbers + ((if p.journal then 1 else 0) + worth p.input 2)))

-- behind the parts, these words make a line
pub record Goes (p : Parts) (ws : Words) (command : Command) : Type 0 where
  pub pieces : List Piece
  pub file : List ℕ
  pub numbers : Numbers
  pub journal : Bool
  pub input : Option (List ℕ)
  pub is : command ≡ RunFile file (options_with numbers) journal input
  pub spells : ws ≡ flat_map spelled pieces
  pub fit : ArePieces pieces
  pub one_file : option_to_list p.file ++ filter_map file_in pieces ≡ option_to_list (Some file)
  pub one_number : (option : NumberOption) → option_to_list (number_of_option p.numbers option) ++ filter_map (number_in option) pieces ≡ option_to_list (number_of_option numbers option)
  pub one_journal : once_if p.journal ++ filter_map journal_in pieces ≡ once_if journal
  pub one_input : option_to_list p.input ++ filter_map input_in pieces ≡ option_to_list input

pub record BeginsRest (p : Parts) (ws : Words) : Type 0 where
  pub rest : Words
  pub command : Command
  pub goes : Goes p (ws ++ rest) command

-- the first word at fault stands behind `good` of these words
pub record BadRest (p : Parts) (ws : Words) (number : ℕ) : Type 0 where
  pub good : ℕ
  pub is : number ≡ words_of p + suc good
  pub within : good ≤ length ws
  pub begins : BeginsRest p (take good ws)
  pub bad : good < length ws → BeginsRest p (take (suc good) ws) → ⊥
  pub no_line : (command : Command) → Goes p ws command → ⊥

-- all that is to be found of these words behind these parts is to be found of the rest behind more parts
pub record Leads (p : Parts) (ws : Words) (q : Parts) (rest : Words) : Type 0 where
  pub line : (command : Command) → Goes q rest command → Goes p ws command
  pub only : (command : Command) → Goes p ws command → Goes q rest command
  pub fault : (number : ℕ) → BadRest q rest number → BadRest p ws number
