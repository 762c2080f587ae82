-- The kinds of bytes that tokens are made of.
use Rattle.std.specs.Prelude.{ℕ, Bool, ◌==◌, ◌||◌, ◌&&◌, nat_le, if◌then◌else◌, Option, Some, None}

abbrev pub is_newline : ℕ → Bool
is_newline b = b == 10

-- space, tab, vertical tab, form feed, carriage return
abbrev pub is_blank : ℕ → Bool
is_blank b = b == 32 || b == 9 || b == 11 || b == 12 || b == 13

abbrev pub is_white : ℕ → Bool
is_white b = is_blank b || is_newline b

-- a letter or `_`
abbrev pub is_letter : ℕ → Bool
is_letter b = (nat_le 97 b && nat_le b 122) || (nat_le 65 b && nat_le b 90) || b == 95

abbrev pub is_digit : ℕ → Bool
is_digit b = nat_le 48 b && nat_le b 57

abbrev pub is_name_byte : ℕ → Bool
is_name_byte b = is_letter b || is_digit b

-- what may stand for itself in a literal, if it is neither the quote nor a backslash
abbrev pub is_printable : ℕ → Bool
is_printable b = nat_le 32 b && nat_le b 126

-- the byte for which the letter behind a backslash stands: n, t, \, ', ", 0
abbrev pub escaped : ℕ → Option ℕ
escaped e =
    if e == 110 then Some 10
    else (if e == 116 then Some 9
    else (if e == 92 then Some 92
    else (if e == 39 then Some 39
    else (if e == 34 then Some 34
    else (if e == 48 then Some 0
    else None)))))
