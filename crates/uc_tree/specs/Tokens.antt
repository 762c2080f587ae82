-- The tokens of a text, or its first fault.
use Rattle.std.specs.Prelude.{ℕ, zero, suc, ◌+◌, ◌-◌, ◌*◌, pos, List, [], ◌∷◌, Bool, ◌==◌, ◌||◌, ◌&&◌, not, nat_lt, nat_eq, if◌then◌else◌, Option, Some, None, length, take, drop, find, fold, slice_get, slice_index, codes, true}
use Rattle.std.specs.List.{prefix_len, starts_with}
use lib.Pointwise.{pointwise}
use Rattle.uc_tree.specs.declared.limits.TheConstants.{NAME_BYTES, NUMBER_MAX, TEXT_BYTES}
use Rattle.uc_tree.specs.declared.pos.Pos.{Pos}
use Rattle.uc_tree.specs.declared.token.Token.{Token}
use Rattle.uc_tree.specs.declared.token.TokenKind.{TokenKind}
use Rattle.uc_tree.specs.declared.token.TokenKind.TheVariants.{Name, Number, Character, Text, Word as AWord, Sign as ASign}
use Rattle.uc_tree.specs.declared.token.Word.{Word}
use Rattle.uc_tree.specs.declared.token.Word.TheVariants.{Event}
use Rattle.uc_tree.specs.declared.token.Sign.{Sign}
use Rattle.uc_tree.specs.declared.scan.ScanPlace.{ScanPlace}
use Rattle.uc_tree.specs.declared.scan.Lexeme.{Lexeme}
use Rattle.uc_tree.specs.declared.scan.Lexeme.TheVariants.{Skip, Take, Stop}
use Rattle.uc_tree.specs.declared.scan.LexicalFault.{LexicalFault}
use Rattle.uc_tree.specs.declared.scan.LexicalFault.TheVariants.{BadByte, OpenComment, OpenText, NumberTooWide, TextTooLong}
use Rattle.uc_tree.specs.Spelling.{word_spelling, sign_spelling, words, signs}
use Rattle.uc_tree.specs.Bytes.{is_newline, is_blank, is_white, is_letter, is_digit, is_name_byte, is_printable, escaped}

-- In what follows `rest` is the text from a place on, and what is found there begins with its first byte.

abbrev pub begins : List ℕ → List ℕ → Bool
begins rest bytes = starts_with nat_eq rest bytes

-- how many bytes there are before the end of the line
abbrev pub line_length : List ℕ → ℕ
line_length rest = prefix_len (λ b. not (is_newline b)) rest

-- Names and words: the longest run of letters, `_` and digits.

-- the word that the bytes spell
abbrev pub word_of : List ℕ → Option Word
word_of bytes = if pointwise nat_eq bytes (codes "_Exception") then Some Event else find (λ w. pointwise nat_eq bytes (word_spelling w)) words

abbrev pub word_or_name : Option Word → List ℕ → TokenKind
word_or_name (Some w) bytes = AWord w
word_or_name None bytes = Name bytes

abbrev pub name_at : List ℕ → Lexeme
name_at rest =
    let n = prefix_len is_name_byte rest in
    if begins rest (codes "std::") then Skip 5
    else (if nat_lt NAME_BYTES n then Stop BadByte NAME_BYTES
    else Take (word_or_name (word_of (take n rest)) (take n rest)) n)

-- Numbers: the longest run of digits.

abbrev pub with_digit : ℕ → ℕ → ℕ
with_digit value digit = value * 10 + (digit - 48)

abbrev pub value_of : List ℕ → ℕ
value_of digits = fold with_digit 0 digits

abbrev pub number_at : List ℕ → Lexeme
number_at rest =
    let n = prefix_len is_digit rest in
    let value = value_of (take n rest) in
    if slice_index rest 0 == 48 && nat_lt 1 n then Stop BadByte 1
    else (if nat_lt NUMBER_MAX value then Stop NumberTooWide 0
    else Take (Number (pos value)) n)

-- Characters: a quote, a byte or an escape, a quote.

-- what follows the byte or the escape of that many bytes
abbrev pub character_end : ℕ → ℕ → Option ℕ → Lexeme
character_end value n None = Stop OpenText 0
character_end value n (Some b) =
    if is_newline b then Stop OpenText 0
    else (if b == 39 then Take (Character value) (n + 2) else Stop BadByte (n + 1))

abbrev pub escape_or_fault : Option ℕ → List ℕ → Lexeme
escape_or_fault None rest = Stop BadByte 2
escape_or_fault (Some value) rest = character_end value 2 (slice_get rest 3)

-- what follows a backslash
abbrev pub character_escape : Option ℕ → List ℕ → Lexeme
character_escape None rest = Stop OpenText 0
character_escape (Some e) rest = if is_newline e then Stop OpenText 0 else escape_or_fault (escaped e) rest

-- what follows the quote
abbrev pub character_start : Option ℕ → List ℕ → Lexeme
character_start None rest = Stop OpenText 0
character_start (Some b) rest =
    if is_newline b then Stop OpenText 0
    else (if b == 92 then character_escape (slice_get rest 2) rest
    else (if b == 39 || not (is_printable b) then Stop BadByte 1
    else character_end b 1 (slice_get rest 2)))

abbrev pub character_at : List ℕ → Lexeme
character_at rest = character_start (slice_get rest 1) rest

-- Texts: bytes and escapes between two double quotes on one line.

-- how a text literal goes on: to its quote, with this value, over this many bytes; to the end of the line; or to a byte
-- that cannot stand in it, behind this many bytes
pub data Ending : Type 0 where
  Closed : List ℕ → ℕ → Ending
  Open : Ending
  Bad : ℕ → Ending

-- n bytes with this value, and then what follows
abbrev pub behind : ℕ → ℕ → Ending → Ending
behind n value (Closed bytes m) = Closed (value ∷ bytes) (n + m)
behind n value Open = Open
behind n value (Bad m) = Bad (n + m)

abbrev pub behind_escape : Option ℕ → Ending → Ending
behind_escape None after = Bad 1
behind_escape (Some value) after = behind 2 value after

-- a byte that is no backslash, and what follows it
abbrev pub behind_byte : ℕ → Ending → Ending
behind_byte b after =
    if b == 34 then Closed [] 1
    else (if is_newline b then Open
    else (if is_printable b then behind 1 b after else Bad 0))

unfoldable pub text_ending : List ℕ → Ending
text_ending [] = Open
text_ending (b ∷ []) = if b == 92 then Open else behind_byte b Open
text_ending (b ∷ e ∷ rest) =
    if b == 92 then (if is_newline e then Open else behind_escape (escaped e) (text_ending rest))
    else behind_byte b (text_ending (e ∷ rest))

abbrev pub text_found : Ending → Lexeme
text_found (Closed bytes n) = if nat_lt TEXT_BYTES (length bytes) then Stop (TextTooLong (length bytes)) 0 else Take (Text bytes) (n + 1)
text_found Open = Stop OpenText 0
text_found (Bad n) = Stop BadByte (n + 1)

abbrev pub text_at : List ℕ → Lexeme
text_at rest = text_found (text_ending (drop 1 rest))

-- Comments.

abbrev pub one_longer : Option ℕ → Option ℕ
one_longer None = None
one_longer (Some n) = Some (n + 1)

-- how many bytes there are up to and with the first `*/`
unfoldable pub comment_length : List ℕ → Option ℕ
comment_length [] = None
comment_length (b ∷ rest) = if begins (b ∷ rest) (codes "*/") then Some 2 else one_longer (comment_length rest)

abbrev pub comment_found : Option ℕ → Lexeme
comment_found None = Stop OpenComment 0
comment_found (Some n) = Skip (n + 2)

-- Signs: the longest that the text goes on with, the list of signs having the longest first.

abbrev pub sign_found : Option Sign → Lexeme
sign_found None = Stop BadByte 0
sign_found (Some s) = Take (ASign s) (length (sign_spelling s))

abbrev pub sign_at : List ℕ → Lexeme
sign_at rest = sign_found (find (λ s. begins rest (sign_spelling s)) signs)

-- Skipped lines: `#` as the first byte of its line that is no blank, blanks, and `include`.

abbrev pub names_include : List ℕ → Bool
names_include rest = begins (drop (prefix_len is_blank rest) rest) (codes "include")

abbrev pub line_at : Bool → List ℕ → Lexeme
line_at fresh rest = if fresh && names_include (drop 1 rest) then Skip (line_length rest) else Stop BadByte 0

-- Comments and signs.

abbrev pub other_at : List ℕ → Lexeme
other_at rest =
    if begins rest (codes "//") then Skip (line_length rest)
    else (if begins rest (codes "/*") then comment_found (comment_length (drop 2 rest))
    else sign_at rest)

-- What stands at a place. `fresh` says whether nothing but blanks stands before it on its line.
unfoldable pub found_at : Bool → List ℕ → Lexeme
found_at fresh rest =
    let b = slice_index rest 0 in
    if is_white b then Skip 1
    else (if b == 35 then line_at fresh rest
    else (if is_letter b then name_at rest
    else (if is_digit b then number_at rest
    else (if b == 39 then character_at rest
    else (if b == 34 then text_at rest
    else (if begins rest (codes "//") then Skip (line_length rest)
    else (if begins rest (codes "/*") then comment_found (comment_length (drop 2 rest))
    else sign_at rest)))))))

-- Places.

-- the place behind a byte: a line ends with a newline, and every other byte is one column
abbrev pub next_place : ScanPlace → ℕ → ScanPlace
next_place p b =
    if is_newline b then record { at = p.at + 1; pos = record { line = p.pos.line + 1; col = 1 }; fresh = true }
    else record { at = p.at + 1; pos = record { line = p.pos.line; col = p.pos.col + 1 }; fresh = p.fresh && is_blank b }

abbrev pub first_place : ScanPlace
first_place = record { at = 0; pos = record { line = 1; col = 1 }; fresh = true }

-- the place of an offset of the text
abbrev pub pos_at : List ℕ → ℕ → Pos
pos_at text at = (fold next_place first_place (take at text)).pos

-- The whole text.

pub data Lexed : Type 0 where
  -- these are the tokens
  Read : List Token → Lexed
  -- at this offset the text stops having tokens, and why
  Refused : LexicalFault → ℕ → Lexed

abbrev pub with_token : Token → Lexed → Lexed
with_token t (Read ts) = Read (t ∷ ts)
with_token t (Refused why at) = Refused why at

-- what is found at a place, and then what follows behind it
abbrev pub lexed_by : ScanPlace → Lexeme → (ℕ → Lexed) → Lexed
lexed_by p (Skip n) after = after n
lexed_by p (Take kind n) after = with_token (record { kind = kind; at = p.at; pos = p.pos }) (after n)
lexed_by p (Stop why n) after = Refused why (p.at + n)

-- the tokens from a place on, its first n bytes being part of what was found before
unfoldable pub tokens_from : ScanPlace → ℕ → List ℕ → Lexed
tokens_from p n [] = Read []
tokens_from p (suc n) (b ∷ rest) = tokens_from (next_place p b) n rest
tokens_from p zero (b ∷ rest) = lexed_by p (found_at p.fresh (b ∷ rest)) (λ n. tokens_from (next_place p b) (n - 1) rest)

abbrev pub tokens : List ℕ → Lexed
tokens text = tokens_from first_place 0 text
