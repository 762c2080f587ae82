-- What a text begins with: a number behind a space, several of them, a line.
use Rattle.std.specs.Prelude.{◌≡◌, ℕ, ℤ, pos, List, [], ◌∷◌, ◌++◌, false, decimal, length}
use Rattle.std.specs.Fmt.{signed_decimal}
use Rattle.uc_tree.specs.Bytes.{is_digit}
use Rattle.uc_entry.specs.declared.entry.Entry.{Entry}
use Rattle.uc_acts.specs.declared.field.FieldType.TheVariants.{Integer}
use Rattle.uc_acts.specs.Texts as texts
use Rattle.uc_acts.specs.Texts.{spaced}
use Rattle.uc_acts.specs.Fit.{IsOf, IsFit, numbers_of}
use Rattle.uc_journal.specs.declared.form.Form.{Form}
use Rattle.uc_journal.specs.declared.form.Form.TheVariants.{Old, New}

-- an entry's line, and its numbers, in a form

abbrev pub line_in : Form → Entry → List ℕ
line_in Old e = texts.old_line e
line_in New e = texts.line e

abbrev pub numbers_in : Form → Entry → List ℤ
numbers_in Old e = pos e.proc ∷ pos e.task ∷ pos e.ticks ∷ pos e.object ∷ e.a ∷ e.b ∷ e.c ∷ e.d ∷ []
numbers_in New e = numbers_of e

abbrev pub count_in : Form → ℕ
count_in Old = 8
count_in New = 9

-- what the form leaves out of the entry is 0
abbrev pub IsTold : Form → Entry → Type 0
IsTold Old e = e.line ≡ 0
IsTold New e = Unit {0}

-- no digit stands first
abbrev pub Ends : List ℕ → Type 0
Ends [] = Unit {0}
Ends (b ∷ bs) = is_digit b ≡ false

-- numbers, each behind a space
abbrev pub all_spaced : List ℤ → List ℕ
all_spaced [] = []
all_spaced (n ∷ ns) = spaced n ++ all_spaced ns

-- the text is a number in decimal, and then the rest
pub record IsNatural (bytes : List ℕ) (n : ℕ) (rest : List ℕ) : Type 0 where
  pub is : bytes ≡ decimal n ++ rest
  pub ends : Ends rest

-- the text is a number in decimal, with a minus where it is negative, and then the rest
pub record IsNumber (bytes : List ℕ) (n : ℤ) (rest : List ℕ) : Type 0 where
  pub is : bytes ≡ signed_decimal n ++ rest
  pub type : IsOf Integer n
  pub ends : Ends rest

-- the same behind a space
pub record IsField (bytes : List ℕ) (n : ℤ) (rest : List ℕ) : Type 0 where
  pub is : bytes ≡ spaced n ++ rest
  pub type : IsOf Integer n
  pub ends : Ends rest

abbrev pub AreIntegers : List ℤ → Type 0
AreIntegers [] = Unit {0}
AreIntegers (n ∷ ns) = IsOf Integer n × AreIntegers ns

-- the text is numbers, each behind a space, and then the rest
pub record AreFields (bytes : List ℕ) (ns : List ℤ) (rest : List ℕ) : Type 0 where
  pub is : bytes ≡ all_spaced ns ++ rest
  pub types : AreIntegers ns
  pub ends : Ends rest

-- the numbers that a form leaves out
abbrev pub left_out : Form → List ℤ
left_out Old = pos 0 ∷ []
left_out New = []

-- these are the nine numbers of a text in a form: those that it shows, and 0 for what it leaves out
pub record AreNumbers (form : Form) (bytes : List ℕ) (values : List ℤ) (rest : List ℕ) : Type 0 where
  pub shown : List ℤ
  pub count : length shown ≡ count_in form
  pub all : values ≡ shown ++ left_out form
  pub fields : AreFields bytes shown rest

-- the text is the line of a fit entry, and then the rest
pub record IsLine (form : Form) (bytes : List ℕ) (e : Entry) (rest : List ℕ) : Type 0 where
  pub is : bytes ≡ line_in form e ++ rest
  pub fit : IsFit e
  pub told : IsTold form e
