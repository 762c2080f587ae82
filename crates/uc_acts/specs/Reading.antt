-- What a read takes of the input.
use Rattle.std.specs.Prelude.{ℕ, ℤ, zero, suc, pos, ◌+◌, ◌==◌, List, [], ◌∷◌, take, drop, Bool, true, false, if◌then◌else◌, int_lt, neg_ℤ}
use Rattle.uc_tree.specs.declared.limits.TheConstants.{INT_MIN, INT_MAX}
use Rattle.uc_tree.specs.Bytes.{is_white, is_digit}
use Rattle.uc_tree.specs.Tokens.{value_of}
use Rattle.std.specs.List.{prefix_len}
use Rattle.uc_acts.specs.declared.got.Got.{Got}
use Rattle.uc_entry.specs.declared.entry.Entry.{Entry}
use Rattle.uc_entry.specs.declared.entry.EntryKind.{EntryKind}
use Rattle.uc_entry.specs.declared.entry.EntryKind.TheVariants as kind
use Rattle.uc_acts.specs.Journal.{Journal, number, holds}

abbrev pub missed : ℕ → Got
missed taken = record { value = pos 0; failed = true; taken = taken }

-- a number out of range fails, and gives the end of `int` on its side
abbrev pub ranged : ℤ → ℕ → Got
ranged n taken =
    if int_lt n INT_MIN then record { value = INT_MIN; failed = true; taken = taken }
    else if int_lt INT_MAX n then record { value = INT_MAX; failed = true; taken = taken }
    else record { value = n; failed = false; taken = taken }

abbrev pub signed : Bool → ℕ → ℤ
signed true n = neg_ℤ (pos n)
signed false n = pos n

-- an `int` behind a sign, if there is one; without a digit nothing but the white space is taken
abbrev pub got_digits : ℕ → ℕ → Bool → List ℕ → ℕ → Got
got_digits white sign minus rest zero = missed white
got_digits white sign minus rest (suc n) = ranged (signed minus (value_of (take (suc n) rest))) (white + sign + suc n)

abbrev pub got_signed : ℕ → ℕ → Bool → List ℕ → Got
got_signed white sign minus rest = got_digits white sign minus rest (prefix_len is_digit rest)

abbrev pub PLUS : ℕ
PLUS = 43

abbrev pub MINUS : ℕ
MINUS = 45

abbrev pub got_int : ℕ → List ℕ → Got
got_int white [] = missed white
got_int white (b ∷ bs) =
    if b == MINUS then got_signed white 1 true bs
    else if b == PLUS then got_signed white 1 false bs
    else got_signed white 0 false (b ∷ bs)

-- a `char` is the next byte
abbrev pub got_char : ℕ → List ℕ → Got
got_char white [] = missed white
got_char white (b ∷ bs) = record { value = pos b; failed = false; taken = white + 1 }

-- form 1 reads a `char`, any other an `int`, behind white space
abbrev pub got_form : ℕ → ℕ → List ℕ → Got
got_form zero white rest = got_int white rest
got_form (suc zero) white rest = got_char white rest
got_form (suc (suc n)) white rest = got_int white rest

abbrev pub got : ℕ → List ℕ → Got
got form rest = got_form form (prefix_len is_white rest) (drop (prefix_len is_white rest) rest)

-- what a journal tells of its reads

abbrev pub used_by : EntryKind → Entry → ℕ → ℕ
used_by kind.Read e n = number e.d
used_by _ e n = n

-- how many bytes of the input the reads have taken: the last one tells
abbrev pub used_from : ℕ → Journal → ℕ
used_from n [] = n
used_from n (e ∷ j) = used_from (used_by e.kind e n) j

unfoldable pub bytes_used : Journal → ℕ
bytes_used j = used_from 0 j

abbrev pub fails_by : EntryKind → Entry → Bool → Bool
fails_by kind.Read e b = if holds 1 e.c then true else b
fails_by _ e b = b

-- whether a read has failed
abbrev pub failed_from : Bool → Journal → Bool
failed_from b [] = b
failed_from b (e ∷ j) = failed_from (fails_by e.kind e b) j

unfoldable pub has_failed : Journal → Bool
has_failed j = failed_from false j

-- after a failure every read fails, takes nothing and gives 0
abbrev pub read_after : Bool → ℕ → List ℕ → ℕ → Got
read_after true form input used = missed 0
read_after false form input used = got form (drop used input)

-- the next read of this form
abbrev pub next_read : ℕ → List ℕ → Journal → Got
next_read form input j = read_after (has_failed j) form input (bytes_used j)
