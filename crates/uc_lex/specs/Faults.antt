-- The faults that the lexer reports.
use Rattle.std.specs.Prelude.{◌≡◌, ◌<◌, ℕ}
use Rattle.uc_tree.specs.Tokens.{Lexed, Refused}
use Rattle.uc_tree.specs.declared.scan.LexicalFault.TheVariants as reason
use Rattle.uc_lex.specs.declared.fault.LexFault.{LexFault}
use Rattle.uc_lex.specs.declared.fault.LexFault.TheVariants.{BadByte, OpenComment, OpenText, NumberTooWide, TextTooLong, NoMemory}

-- What a fault says of a text. Want of memory says nothing.
abbrev pub IsFault : Lexed → LexFault → Type 0
IsFault l (BadByte at) = l ≡ Refused reason.BadByte at
IsFault l (OpenComment at) = l ≡ Refused reason.OpenComment at
IsFault l (OpenText at) = l ≡ Refused reason.OpenText at
IsFault l (NumberTooWide at) = l ≡ Refused reason.NumberTooWide at
IsFault l (TextTooLong at len) = l ≡ Refused (reason.TextTooLong len) at
IsFault l NoMemory = Unit {0}

-- the fault is at one of that many bytes
abbrev pub StandsIn : LexFault → ℕ → Type 0
StandsIn (BadByte at) room = at < room
StandsIn (OpenComment at) room = at < room
StandsIn (OpenText at) room = at < room
StandsIn (NumberTooWide at) room = at < room
StandsIn (TextTooLong at len) room = at < room
StandsIn NoMemory room = Unit {0}
