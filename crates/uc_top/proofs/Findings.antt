-- What the parts of the top call find, put together.
use Rattle.std.proofs.Common.{◌≡◌, inl, inr, ℕ, Bool, List, refl, sym, ap, subst}
use Rattle.std.specs.Prelude.{Option, None}
use Rattle.uc_entry.specs.declared.entry.Options.{Options}
use Rattle.uc_acts.specs.Journal.{Journal}
use Rattle.uc_tree.specs.declared.limits.TheConstants.{JOURNAL_BYTES}
use Rattle.uc_outside.specs.Reading.{StoreState, ReadBytes}
use Rattle.uc_words.specs.Words.{Words, IsFirstBad, Command, RunFile, CheckFile, LowerFile, MakeProgram, ExplainJournal, IsLine}
use Rattle.uc_make.specs.Generated.{generated}
use Rattle.uc_top.specs.declared.endings.Ending.{Ending}
use Rattle.uc_top.specs.declared.program.Purpose.TheVariants as purpose
use Rattle.uc_top.specs.declared.refusals.Refusal.{Refusal}
use Rattle.uc_top.specs.declared.refusals.Refusal.TheVariants.{Word, CannotRead, TooLong, Lexical, Syntax, TooDeep, Broken, FrameTooLarge, CodeTooLarge, BadLine, NoMemory}
use Rattle.uc_top.specs.Commands.{Asks, IsOnFile, file_of, input_of, RunsNothing, FilesRan, FileChecked, FileLowered, ProgramMade, CommandDid, HasDone}
use Rattle.uc_top.specs.Refusals.{Refuses}
use Rattle.uc_top.specs.Decisions.{FilesDid, FilesRefused, NotMade, NotRead, JournalRefused, JournalTextRefused, CommandRefused}

-- what was done with the text, for each command

pub run_did : {a b : StoreState} {file : List ℕ} {named : Option (List ℕ)} {too : Bool} {journal : Journal} {output : List ℕ} {ending : Ending} (opts : Options) → FilesDid a b file named (purpose.Run opts too) journal output ending → FilesRan a b file named opts too journal output ending
run_did opts d = record {
  text = d.text;
  input = d.input;
  reads = d.reads;
  ran = d.did;
}

pub check_did : {a b : StoreState} {file : List ℕ} {journal : Journal} {output : List ℕ} {ending : Ending} → FilesDid a b file None purpose.Check journal output ending → FileChecked a b file journal output ending
check_did d = record {
  text = d.text;
  input = d.input;
  reads = d.reads;
  checked = record { program = d.did.program; spells = d.did.spells; only = d.did.only; is = d.did.is.accepted };
  runs = d.did.is.runs;
  quiet = d.did.is.quiet;
}

pub lower_did : {a b : StoreState} {file : List ℕ} {journal : Journal} {output : List ℕ} {ending : Ending} → FilesDid a b file None purpose.Lower journal output ending → FileLowered a b file journal output ending
lower_did d = record {
  text = d.text;
  input = d.input;
  reads = d.reads;
  lowered = record { program = d.did.program; spells = d.did.spells; only = d.did.only; is = d.did.is.listing };
  runs = d.did.is.runs;
}

pub make_did : {a : StoreState} {journal : Journal} {output : List ℕ} {ending : Ending} (n : ℕ) → RunsNothing journal ending → output ≡ generated n → ProgramMade a a n journal output ending
make_did n runs is = record { unread = refl; is = is; runs = runs }

-- the words asked for it

pub has_done : {words : Words} {a b : StoreState} {journal : Journal} {output : List ℕ} {ending : Ending} (c : Command) → IsLine words c → ((other : Command) → IsLine words other → other ≡ c) → CommandDid c a b journal output ending → HasDone words a b journal output ending
has_done c line only did = record { command = c; asks = record { line = line; only = only }; did = did }

on_file : {words : Words} (a b : StoreState) (c : Command) → IsOnFile c → Asks words c → (name : List ℕ) (r : Refusal) → FilesRefused a b (file_of c) (input_of c) r name → Refuses words a b r name
on_file a b c on asks name (Word n) h = absurd h
on_file a b c on asks name CannotRead h = inl (record { command = c; asks = asks; on_file = on; unread = h })
on_file a b c on asks name TooLong h = inl (record { command = c; asks = asks; on_file = on; long = h })
on_file a b c on asks name (Lexical why here) h = record { command = c; text = h.text; input = h.input; gave = record { asks = asks; on_file = on; reads = h.reads }; is = h.is }
on_file a b c on asks name (Syntax here) h = record { command = c; text = h.text; input = h.input; gave = record { asks = asks; on_file = on; reads = h.reads }; is = h.is }
on_file a b c on asks name (TooDeep here) h = record { command = c; text = h.text; input = h.input; gave = record { asks = asks; on_file = on; reads = h.reads }; is = h.is }
on_file a b c on asks name (Broken rule here) h = record { command = c; text = h.text; input = h.input; gave = record { asks = asks; on_file = on; reads = h.reads }; is = h.is }
on_file a b c on asks name FrameTooLarge h = record { command = c; text = h.text; input = h.input; gave = record { asks = asks; on_file = on; reads = h.reads }; is = h.is }
on_file a b c on asks name CodeTooLarge h = record { command = c; text = h.text; input = h.input; gave = record { asks = asks; on_file = on; reads = h.reads }; is = h.is }
on_file a b c on asks name (BadLine n) h = absurd h
on_file a b c on asks name NoMemory h = record { command = c; asks = asks; same_count = h }

on_journal : {words : Words} (a b : StoreState) (file : List ℕ) (object : ℕ) → Asks words (ExplainJournal file object) → (name : List ℕ) (r : Refusal) → JournalRefused a b file r name → Refuses words a b r name
on_journal a b file object asks name (Word n) h = absurd h
on_journal a b file object asks name CannotRead h = inr (record { file = file; object = object; asks = asks; is = h })
on_journal a b file object asks name TooLong h = inr (record { file = file; object = object; asks = asks; is = h })
on_journal a b file object asks name (Lexical why here) h = absurd h
on_journal a b file object asks name (Syntax here) h = absurd h
on_journal a b file object asks name (TooDeep here) h = absurd h
on_journal a b file object asks name (Broken rule here) h = absurd h
on_journal a b file object asks name FrameTooLarge h = absurd h
on_journal a b file object asks name CodeTooLarge h = absurd h
on_journal a b file object asks name (BadLine n) h = record { file = file; object = object; asks = asks; is = h }
on_journal a b file object asks name NoMemory h = record { command = ExplainJournal file object; asks = asks; same_count = h }

refuses : {words : Words} (a b : StoreState) (c : Command) → Asks words c → (name : List ℕ) (r : Refusal) → CommandRefused c a b r name → Refuses words a b r name
refuses a b (RunFile file opts too named) asks name r h = on_file a b (RunFile file opts too named) tt asks name r h
refuses a b (CheckFile file) asks name r h = on_file a b (CheckFile file) tt asks name r h
refuses a b (LowerFile file) asks name r h = on_file a b (LowerFile file) tt asks name r h
refuses a b (ExplainJournal file object) asks name r h = on_journal a b file object asks name r h
refuses {words} a b (MakeProgram n) asks name r h =
    subst (λ x. Refuses words a b x name) (sym h.is) (record { command = MakeProgram n; asks = asks; same_count = ap (λ s. s.count) h.unread })

pub has_refused : {words : Words} (a b : StoreState) (c : Command) (name : List ℕ) (r : Refusal) → IsLine words c → ((other : Command) → IsLine words other → other ≡ c) → CommandRefused c a b r name → Refuses words a b r name
has_refused a b c name r line only h = refuses a b c (record { line = line; only = only }) name r h

-- why a journal was not read, and why its text was not explained

pub journal_unread : (a b : StoreState) (file name : List ℕ) (r : Refusal) → name ≡ file → NotRead a b file JOURNAL_BYTES r → JournalRefused a b file r name
journal_unread a b file name (Word n) e h = absurd h
journal_unread a b file name CannotRead e h = record { is_named = e; failed = h }
journal_unread a b file name TooLong e h = record { is_named = e; long = h }
journal_unread a b file name (Lexical why here) e h = absurd h
journal_unread a b file name (Syntax here) e h = absurd h
journal_unread a b file name (TooDeep here) e h = absurd h
journal_unread a b file name (Broken rule here) e h = absurd h
journal_unread a b file name FrameTooLarge e h = absurd h
journal_unread a b file name CodeTooLarge e h = absurd h
journal_unread a b file name (BadLine n) e h = absurd h
journal_unread a b file name NoMemory e h = h

unexplained_by : (a b : StoreState) (file text name : List ℕ) (r : Refusal) → ReadBytes a b file JOURNAL_BYTES text → JournalTextRefused text r → JournalRefused a b file r name
unexplained_by a b file text name (Word n) read h = absurd h
unexplained_by a b file text name CannotRead read h = absurd h
unexplained_by a b file text name TooLong read h = absurd h
unexplained_by a b file text name (Lexical why here) read h = absurd h
unexplained_by a b file text name (Syntax here) read h = absurd h
unexplained_by a b file text name (TooDeep here) read h = absurd h
unexplained_by a b file text name (Broken rule here) read h = absurd h
unexplained_by a b file text name FrameTooLarge read h = absurd h
unexplained_by a b file text name CodeTooLarge read h = absurd h
unexplained_by a b file text name (BadLine n) read h = record { text = text; read = read; is = h }
unexplained_by a b file text name NoMemory read h = read.same_count

pub unexplained : (a b : StoreState) (file text name : List ℕ) (q r : Refusal) → q ≡ r → ReadBytes a b file JOURNAL_BYTES text → JournalTextRefused text r → JournalRefused a b file q name
unexplained a b file text name q r e read h = subst (λ x. JournalRefused a b file x name) (sym e) (unexplained_by a b file text name r read h)

pub not_made : {a : StoreState} (r : Refusal) → r ≡ NoMemory → NotMade a a r
not_made r e = record { is = e; unread = refl }

pub bad_word : {words : Words} (a : StoreState) (r : Refusal) (n : ℕ) (name : List ℕ) → r ≡ Word n → IsFirstBad words n → Refuses words a a r name
bad_word {words} a r n name e first = subst (λ x. Refuses words a a x name) (sym e) (record { first = first; unread = refl })
