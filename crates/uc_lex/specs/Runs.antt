-- Which bytes a run is of.
use Rattle.std.specs.Prelude.{ℕ, Bool, not}
use Rattle.uc_tree.specs.Bytes.{is_newline, is_blank, is_digit, is_name_byte}
use Rattle.uc_lex.specs.declared.bytes.Class.{Class}
use Rattle.uc_lex.specs.declared.bytes.Class.TheVariants.{Name, Digit, Blank, Line}

abbrev pub is_in : Class → ℕ → Bool
is_in Name b = is_name_byte b
is_in Digit b = is_digit b
is_in Blank b = is_blank b
is_in Line b = not (is_newline b)
