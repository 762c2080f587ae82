-- Places in a text, and what is found at them.
use Rattle.std.specs.Prelude.{ℕ, ◌+◌, ◌<◌, ◌≤◌}
use Rattle.uc_tree.specs.declared.scan.ScanPlace.{ScanPlace}
use Rattle.uc_tree.specs.declared.scan.Lexeme.{Lexeme}
use Rattle.uc_tree.specs.declared.scan.Lexeme.TheVariants.{Skip, Take, Stop}

-- Each line and each column has one byte at least before the next.
pub record InRange (p : ScanPlace) : Type 0 where
  pub line : p.pos.line ≤ p.at + 1
  pub col : p.pos.col ≤ p.at + 1

-- What is found takes one byte at least, and no more than there are; a fault stands at one of them.
abbrev pub InText : Lexeme → ℕ → Type 0
InText (Skip n) room = (0 < n) × (n ≤ room)
InText (Take kind n) room = (0 < n) × (n ≤ room)
InText (Stop why n) room = n < room
