-- The text of a journal in either form, its lines, and the first that is not as it must be.
use Rattle.std.specs.Prelude.{◌≡◌, ℕ, zero, suc, ◌==◌, ◌<◌, List, [], ◌∷◌, ◌++◌, length, slice_index_or, if◌then◌else◌}
use Rattle.uc_entry.specs.declared.entry.Entry.{Entry}
use Rattle.uc_acts.specs.Journal.{Journal}
use Rattle.uc_acts.specs.Texts.{heading, text, old_text}
use Rattle.uc_acts.specs.Fit.{IsFit, AreFit}
use Rattle.uc_journal.specs.declared.form.Form.{Form}
use Rattle.uc_journal.specs.declared.form.Form.TheVariants.{Old, New}
use Rattle.uc_journal.specs.declared.read.JournalFault.{JournalFault}
use Rattle.uc_journal.specs.declared.read.JournalFault.TheVariants.{BadLine, NoMemory}
use Rattle.uc_journal.specs.Fields.{line_in, IsTold}

-- the first line of the text is the heading
pub record HasHeading (bytes : List ℕ) : Type 0 where
  pub rest : List ℕ
  pub is : bytes ≡ heading ++ rest

-- the form in which a text is read, and what stands behind its heading
abbrev pub IsBody : List ℕ → Form → List ℕ → Type 0
IsBody bytes Old rest = (rest ≡ bytes) × (HasHeading bytes → ⊥)
IsBody bytes New rest = bytes ≡ heading ++ rest

abbrev pub IsForm : Form → List ℕ → Type 0
IsForm Old bytes = HasHeading bytes → ⊥
IsForm New bytes = HasHeading bytes

abbrev pub text_in : Form → Journal → List ℕ
text_in Old j = old_text j
text_in New j = text j

abbrev pub AreWithoutLine : Journal → Type 0
AreWithoutLine [] = Unit {0}
AreWithoutLine (e ∷ j) = IsTold Old e × AreWithoutLine j

-- what the form leaves out of the entries is 0
abbrev pub AreTold : Form → Journal → Type 0
AreTold Old j = AreWithoutLine j
AreTold New j = Unit {0}

-- the bytes are the text of this journal, whose entries are fit; or its text in the old form, and each entry's line is 0
pub record IsTextOf (bytes : List ℕ) (journal : Journal) : Type 0 where
  pub form : Form
  pub fit : AreFit journal
  pub told : AreTold form journal
  pub is : bytes ≡ text_in form journal

-- a byte before the first line
abbrev pub in_front : ℕ → List (List ℕ) → List (List ℕ)
in_front b [] = (b ∷ []) ∷ []
in_front b (l ∷ ls) = (b ∷ l) ∷ ls

-- the lines of a text, each with its newline; the last may be without one
abbrev pub lines : List ℕ → List (List ℕ)
lines [] = []
lines (b ∷ bs) = if b == 10 then (10 ∷ []) ∷ lines bs else in_front b (lines bs)

-- a line is the text of a fit entry in this form
pub record IsEntryText (form : Form) (l : List ℕ) : Type 0 where
  pub entry : Entry
  pub fit : IsFit entry
  pub told : IsTold form entry
  pub is : l ≡ line_in form entry

-- the line of this number, from 0, is what it must be: the heading, in the new form, and behind it texts of entries
abbrev pub IsGood : Form → ℕ → List ℕ → Type 0
IsGood Old k l = IsEntryText Old l
IsGood New zero l = l ≡ heading
IsGood New (suc k) l = IsEntryText New l

abbrev pub line_at : List ℕ → ℕ → List ℕ
line_at bytes k = slice_index_or (lines bytes) k []

-- line `number`, from 1, is not what it must be, and each line before it is
pub record IsFirstBadLine (bytes : List ℕ) (number : ℕ) : Type 0 where
  pub form : Form
  pub form_is : IsForm form bytes
  pub good : ℕ
  pub is : number ≡ suc good
  pub inside : good < length (lines bytes)
  pub before : (k : ℕ) → k < good → IsGood form k (line_at bytes k)
  pub bad : IsGood form good (line_at bytes good) → ⊥

-- why bytes are not read as a journal
abbrev pub IsFault : List ℕ → JournalFault → Type 0
IsFault bytes (BadLine n) = IsFirstBadLine bytes n
IsFault bytes NoMemory = Unit {0}

-- what is said where a line is at fault: the bytes are the text of no journal
abbrev pub HasNoJournal : List ℕ → JournalFault → Type 0
HasNoJournal bytes (BadLine n) = (journal : Journal) → IsTextOf bytes journal → ⊥
HasNoJournal bytes NoMemory = Unit {0}

-- the lines before the first entry
abbrev pub lines_before : Form → ℕ
lines_before Old = 0
lines_before New = 1

-- the fault names the line behind so many
abbrev pub NamesLineBehind : ℕ → JournalFault → Type 0
NamesLineBehind count (BadLine n) = n ≡ suc count
NamesLineBehind count NoMemory = Unit {0}
