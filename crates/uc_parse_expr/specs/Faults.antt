-- The token of a fault.
use Rattle.std.specs.Prelude.{ℕ}
use Rattle.uc_grammar.specs.declared.fault.ParseFault.{ParseFault}
use Rattle.uc_grammar.specs.declared.fault.ParseFault.TheVariants.{Syntax, TooDeep, NoMemory}

-- that of a fault which has one, and else the first
abbrev pub token_of : ParseFault → ℕ
token_of (Syntax p) = p
token_of (TooDeep p) = p
token_of NoMemory = 0
