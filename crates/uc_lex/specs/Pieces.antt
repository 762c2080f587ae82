-- The pieces of a text literal: what each says of how the literal ends.
use Rattle.std.specs.Prelude.{ℕ, ◌<◌, ◌≤◌, ◌==◌, Option, Some, None, [], if◌then◌else◌}
use Rattle.uc_tree.specs.Bytes.{is_newline, is_printable, escaped}
use Rattle.uc_tree.specs.Tokens as tokens
use Rattle.uc_lex.specs.declared.literals.Piece.{Piece}
use Rattle.uc_lex.specs.declared.literals.Piece.TheVariants.{Byte, Close, Open, Bad}

-- how many bytes a piece of the value takes
abbrev pub piece_length : Piece → ℕ
piece_length (Byte value n) = n
piece_length Close = 0
piece_length Open = 0
piece_length (Bad n) = 0

-- how the literal ends, by how what follows the piece does
abbrev pub ending_of : Piece → tokens.Ending → tokens.Ending
ending_of (Byte value n) after = tokens.behind n value after
ending_of Close after = tokens.Closed [] 1
ending_of Open after = tokens.Open
ending_of (Bad n) after = tokens.Bad n

abbrev pub piece_of_value : Option ℕ → Piece
piece_of_value None = Bad 1
piece_of_value (Some value) = Byte value 2

-- the piece that the letter behind a backslash makes
abbrev pub piece_of_escape : Option ℕ → Piece
piece_of_escape None = Open
piece_of_escape (Some letter) = if is_newline letter then Open else piece_of_value (escaped letter)

abbrev pub piece_of_byte : ℕ → Piece
piece_of_byte b = if b == 34 then Close else (if is_newline b then Open else (if is_printable b then Byte b 1 else Bad 0))

-- the piece that begins with these bytes, of which the line may have fewer
abbrev pub piece_of : Option ℕ → Option ℕ → Piece
piece_of None second = Open
piece_of (Some b) second = if b == 92 then piece_of_escape second else piece_of_byte b

-- A piece of the value takes one byte at least, and no more than there are.
abbrev pub Moves : Piece → ℕ → Type 0
Moves (Byte value n) room = (0 < n) × (n ≤ room)
Moves Close room = 0 < room
Moves Open room = Unit {0}
Moves (Bad n) room = (n < 2) × (n < room)
