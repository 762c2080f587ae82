-- What is found at a place stands inside the text.
use Rattle.std.proofs.Common.{◌≡◌, ℕ, suc, ◌+◌, ◌<◌, ◌≤◌, List, [], ◌∷◌, Bool, true, false, cond, length, take, drop, refl, ap, arith, nat_eq, nat_lt}
use Rattle.std.proofs.lemmas.List.Sums.{prefix_len-le-length}
use Rattle.std.proofs.lemmas.Option.{slice_get_within}
use Rattle.std.proofs.lemmas.Bool.{ltb-true}
use Rattle.std.proofs.Common.{length-drop, length-take}
use lib.Pointwise.{pointwise_long}
use Rattle.std.specs.Prelude.{Option, Some, None, find, IfSome, slice_get, slice_index, codes, not, ◌==◌, ◌&&◌, ◌||◌, if◌then◌else◌}
use Rattle.std.specs.List.{prefix_len, list_all}
use Rattle.uc_tree.specs.declared.limits.TheConstants.{NAME_BYTES, NUMBER_MAX, TEXT_BYTES}
use Rattle.uc_tree.specs.declared.scan.Lexeme.{Lexeme}
use Rattle.uc_tree.specs.declared.scan.Lexeme.TheVariants.{Skip}
use Rattle.uc_tree.specs.declared.token.Sign.{Sign}
use Rattle.uc_tree.specs.Bytes.{is_newline, is_blank, is_white, is_letter, is_digit, is_name_byte, is_printable, escaped}
use Rattle.uc_tree.specs.Spelling.{sign_spelling, signs}
use Rattle.uc_tree.specs.Tokens.{begins, line_length, value_of, names_include, name_at, number_at, character_at, character_start, character_escape, escape_or_fault, character_end, Ending, Closed, Open, Bad, behind, behind_escape, behind_byte, text_ending, text_found, text_at, one_longer, comment_length, comment_found, sign_found, sign_at, line_at, other_at, found_at}
use Rattle.uc_lex.specs.Places.{InText}

-- a choice by a test
either : (t : Bool) (a b : Lexeme) (room : ℕ) → (t ≡ true → InText a room) → (t ≡ false → InText b room) → InText (if t then a else b) room
either true a b room at_true at_false = at_true refl
either false a b room at_true at_false = at_false refl

-- a run of what the text begins with has one element at least
prefix_len-some : (p : ℕ → Bool) (rest : List ℕ) → 0 < length rest → p (slice_index rest 0) ≡ true → 0 < prefix_len p rest
prefix_len-some p [] some first = omega arith
prefix_len-some p (b ∷ rest) some first = rw first (omega arith)

run_inside : (p : ℕ → Bool) (rest : List ℕ) → 0 < length rest → p (slice_index rest 0) ≡ true → InText (Skip (prefix_len p rest)) (length rest)
run_inside p rest some first = (prefix_len-some p rest some first, prefix_len-le-length p rest)

begins-length : (rest bytes : List ℕ) → begins rest bytes ≡ true → length bytes ≤ length rest
begins-length rest bytes h =
    let same : length bytes ≡ length (take (length bytes) rest) = pointwise_long nat_eq bytes (take (length bytes) rest) h in
    omega (arith, same, length-take (length bytes) rest)

and_second : (a b : Bool) → (a && b) ≡ true → b ≡ true
and_second true b h = h
and_second false true h = refl
and_second false false h = h

and_first : (a b : Bool) → (a && b) ≡ true → a ≡ true
and_first true b h = refl
and_first false b h = h

or_second : (a b : Bool) → (a || b) ≡ false → b ≡ false
or_second false b h = h
or_second true true h = h
or_second true false h = refl

name_inside : (rest : List ℕ) → 0 < length rest → is_letter (slice_index rest 0) ≡ true → InText (name_at rest) (length rest)
name_inside rest some letter =
    let run = run_inside is_name_byte rest some (ap (λ v. v || is_digit (slice_index rest 0)) letter) in
    either (begins rest (codes "std::")) _ _ _ (λ h. (omega arith, begins-length rest (codes "std::") h))
    (λ _. either (nat_lt NAME_BYTES (prefix_len is_name_byte rest)) _ _ _
    (λ h. omega (arith, run.1, ltb-true NAME_BYTES (prefix_len is_name_byte rest) h)) (λ _. run))

number_inside : (rest : List ℕ) → 0 < length rest → is_digit (slice_index rest 0) ≡ true → InText (number_at rest) (length rest)
number_inside rest some digit =
    let run = run_inside is_digit rest some digit in
    either (slice_index rest 0 == 48 && nat_lt 1 (prefix_len is_digit rest)) _ _ _
    (λ h. omega (arith, run.1, ltb-true 1 (prefix_len is_digit rest) (and_second (slice_index rest 0 == 48) (nat_lt 1 (prefix_len is_digit rest)) h)))
    (λ _. either (nat_lt NUMBER_MAX (value_of (take (prefix_len is_digit rest) rest))) _ _ _ (λ _. some) (λ _. run))

end_inside : (value n : ℕ) (rest : List ℕ) (next : Option ℕ) → 0 < length rest → slice_get rest (n + 1) ≡ next → InText (character_end value n next) (length rest)
end_inside value n rest None some is = some
end_inside value n rest (Some b) some is =
    let within : n + 1 < length rest = slice_get_within rest (n + 1) b is in
    either (is_newline b) _ _ _ (λ _. some)
    (λ _. either (b == 39) _ _ _ (λ _. (omega arith, omega (arith, within))) (λ _. within))

value_inside : (rest : List ℕ) (value : Option ℕ) → 2 < length rest → InText (escape_or_fault value rest) (length rest)
value_inside rest None within = within
value_inside rest (Some value) within = end_inside value 2 rest (slice_get rest 3) (omega (arith, within)) refl

escape_inside : (rest : List ℕ) (letter : Option ℕ) → 0 < length rest → slice_get rest 2 ≡ letter → InText (character_escape letter rest) (length rest)
escape_inside rest None some is = some
escape_inside rest (Some e) some is = either (is_newline e) _ _ _ (λ _. some) (λ _. value_inside rest (escaped e) (slice_get_within rest 2 e is))

start_inside : (rest : List ℕ) (first : Option ℕ) → 0 < length rest → slice_get rest 1 ≡ first → InText (character_start first rest) (length rest)
start_inside rest None some is = some
start_inside rest (Some b) some is =
    either (is_newline b) _ _ _ (λ _. some)
    (λ _. either (b == 92) _ _ _ (λ _. escape_inside rest (slice_get rest 2) some refl)
    (λ _. either (b == 39 || not (is_printable b)) _ _ _ (λ _. slice_get_within rest 1 b is)
    (λ _. end_inside b 1 rest (slice_get rest 2) some refl)))

character_inside : (rest : List ℕ) → 0 < length rest → InText (character_at rest) (length rest)
character_inside rest some = start_inside rest (slice_get rest 1) some refl

-- a text literal ends inside the text, or its bad byte stands there
abbrev IsWithin : Ending → ℕ → Type 0
IsWithin (Closed bytes n) room = n ≤ room
IsWithin Open room = Unit {0}
IsWithin (Bad n) room = n < room

pick : (t : Bool) (a b : Ending) (room : ℕ) → IsWithin a room → IsWithin b room → IsWithin (if t then a else b) room
pick true a b room at_true at_false = at_true
pick false a b room at_true at_false = at_false

behind_within : (n value : ℕ) (after : Ending) (room : ℕ) → IsWithin after room → IsWithin (behind n value after) (n + room)
behind_within n value (Closed bytes m) room h = omega (arith, h)
behind_within n value Open room h = tt
behind_within n value (Bad m) room h = omega (arith, h)

wider : (e : Ending) (room more : ℕ) → room ≤ more → IsWithin e room → IsWithin e more
wider (Closed bytes n) room more le h = omega (arith, le, h)
wider Open room more le h = tt
wider (Bad n) room more le h = omega (arith, le, h)

byte_within : (b : ℕ) (after : Ending) (room : ℕ) → IsWithin after room → IsWithin (behind_byte b after) (suc room)
byte_within b after room h =
    pick (b == 34) _ _ _ (omega arith)
    (pick (is_newline b) _ _ _ tt
    (pick (is_printable b) _ _ _ (wider (behind 1 b after) (1 + room) (suc room) (omega arith) (behind_within 1 b after room h)) (omega arith)))

escaped_within : (value : Option ℕ) (after : Ending) (room : ℕ) → IsWithin after room → IsWithin (behind_escape value after) (suc (suc room))
escaped_within None after room h = omega arith
escaped_within (Some value) after room h = wider (behind 2 value after) (2 + room) (suc (suc room)) (omega arith) (behind_within 2 value after room h)

ending_within : (body : List ℕ) → IsWithin (text_ending body) (length body)
unfolding text_ending
ending_within [] = tt
ending_within (b ∷ []) = pick (b == 92) _ _ _ tt (byte_within b Open 0 tt)
ending_within (b ∷ e ∷ rest) =
    pick (b == 92) _ _ _
    (pick (is_newline e) _ _ _ tt (escaped_within (escaped e) (text_ending rest) (length rest) (ending_within rest)))
    (byte_within b (text_ending (e ∷ rest)) (length (e ∷ rest)) (ending_within (e ∷ rest)))

found_of_ending : (e : Ending) (rest : List ℕ) → 0 < length rest → IsWithin e (length (drop 1 rest)) → InText (text_found e) (length rest)
found_of_ending (Closed bytes n) rest some h =
    either (nat_lt TEXT_BYTES (length bytes)) _ _ _ (λ _. some) (λ _. (omega arith, omega (arith, h, some, length-drop 1 rest)))
found_of_ending Open rest some h = some
found_of_ending (Bad n) rest some h = omega (arith, h, some, length-drop 1 rest)

text_inside : (rest : List ℕ) → 0 < length rest → InText (text_at rest) (length rest)
text_inside rest some = found_of_ending (text_ending (drop 1 rest)) rest some (ending_within (drop 1 rest))

abbrev has_byte : Sign → Bool
has_byte s = nat_lt 0 (length (sign_spelling s))

sign_choice : (t : Bool) (s : Sign) (o : Option Sign) (room : ℕ) → (t ≡ true → InText (sign_found (Some s)) room) → InText (sign_found o) room → InText (sign_found (cond t (Some s) o)) room
sign_choice true s o room at_true at_false = at_true refl
sign_choice false s o room at_true at_false = at_false

first_sign_inside : (rest : List ℕ) (ss : List Sign) → 0 < length rest → list_all has_byte ss ≡ true → InText (sign_found (find (λ s. begins rest (sign_spelling s)) ss)) (length rest)
first_sign_inside rest [] some bytes = some
first_sign_inside rest (s ∷ ss) some bytes =
    sign_choice (begins rest (sign_spelling s)) s (find (λ s. begins rest (sign_spelling s)) ss) (length rest)
    (λ h. (ltb-true 0 (length (sign_spelling s)) (and_first (has_byte s) (list_all has_byte ss) bytes), begins-length rest (sign_spelling s) h))
    (first_sign_inside rest ss some (and_second (has_byte s) (list_all has_byte ss) bytes))

sign_inside : (rest : List ℕ) → 0 < length rest → InText (sign_at rest) (length rest)
sign_inside rest some = first_sign_inside rest signs some refl

comment_choice : (t : Bool) (o : Option ℕ) (b : ℕ) (rest : List ℕ) → (t ≡ true → 2 ≤ length (b ∷ rest)) → IfSome o (λ n. n ≤ length rest) → IfSome (if t then Some 2 else one_longer o) (λ n. n ≤ length (b ∷ rest))
comment_choice true o b rest at_true h = at_true refl
comment_choice false None b rest at_true h = tt
comment_choice false (Some n) b rest at_true h = omega (arith, h)

comment_within : (rest : List ℕ) → IfSome (comment_length rest) (λ n. n ≤ length rest)
unfolding comment_length
comment_within [] = tt
comment_within (b ∷ rest) = comment_choice (begins (b ∷ rest) (codes "*/")) (comment_length rest) b rest (λ h. begins-length (b ∷ rest) (codes "*/") h) (comment_within rest)

found_of_comment : (o : Option ℕ) (rest : List ℕ) → 0 < length rest → 2 ≤ length rest → IfSome o (λ n. n ≤ length (drop 2 rest)) → InText (comment_found o) (length rest)
found_of_comment None rest some two h = some
found_of_comment (Some n) rest some two h = (omega arith, omega (arith, h, two, length-drop 2 rest))

line_run : (rest : List ℕ) → 0 < length rest → is_white (slice_index rest 0) ≡ false → InText (Skip (line_length rest)) (length rest)
line_run rest some white = run_inside (λ b. not (is_newline b)) rest some (ap not (or_second (is_blank (slice_index rest 0)) (is_newline (slice_index rest 0)) white))

other_inside : (rest : List ℕ) → 0 < length rest → is_white (slice_index rest 0) ≡ false → InText (other_at rest) (length rest)
other_inside rest some white =
    either (begins rest (codes "//")) _ _ _ (λ _. line_run rest some white)
    (λ _. either (begins rest (codes "/*")) _ _ _
    (λ h. found_of_comment (comment_length (drop 2 rest)) rest some (begins-length rest (codes "/*") h) (comment_within (drop 2 rest)))
    (λ _. sign_inside rest some))

line_inside : (fresh : Bool) (rest : List ℕ) → 0 < length rest → is_white (slice_index rest 0) ≡ false → InText (line_at fresh rest) (length rest)
line_inside fresh rest some white = either (fresh && names_include (drop 1 rest)) _ _ _ (λ _. line_run rest some white) (λ _. some)

pub found_inside : (fresh : Bool) (rest : List ℕ) → 0 < length rest → InText (found_at fresh rest) (length rest)
unfolding found_at
found_inside fresh rest some =
    let b = slice_index rest 0 in
    either (is_white b) _ _ _ (λ _. (omega arith, omega (arith, some)))
    (λ white. either (b == 35) _ _ _ (λ _. line_inside fresh rest some white)
    (λ _. either (is_letter b) _ _ _ (name_inside rest some)
    (λ _. either (is_digit b) _ _ _ (number_inside rest some)
    (λ _. either (b == 39) _ _ _ (λ _. character_inside rest some)
    (λ _. either (b == 34) _ _ _ (λ _. text_inside rest some) (λ _. other_inside rest some white))))))
