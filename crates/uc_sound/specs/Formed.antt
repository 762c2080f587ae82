-- The trees that the grammar gives, and the tokens of a text.
use Rattle.std.specs.Prelude.{◌≡◌, ℕ, ◌≤◌, List, length}
use Rattle.uc_tree.specs.declared.limits.TheConstants.{LAST_CLASS}
use Rattle.uc_tree.specs.declared.token.Token.{Token}
use Rattle.uc_tree.specs.Programs.{Program}
use Rattle.uc_tree.specs.Tokens.{tokens, Read}
use Rattle.uc_grammar.specs.Text.{IsProgram}
use Rattle.uc_sound.specs.SoundFormed.{IsFormed}

-- A program that all of these tokens spell, however deep it is nested, is formed: each class and each parameter of a routine takes a
-- token, so that no more tokens than there are numbers of classes are enough.
abbrev pub LawFormed : Type 0
LawFormed = (n : ℕ) (ts : List Token) (p : Program) → length ts ≤ LAST_CLASS → IsProgram n ts 0 (length ts) p → IsFormed p

-- A text has no more tokens than bytes.
abbrev pub LawTokens : Type 0
LawTokens = (text : List ℕ) (ts : List Token) → tokens text ≡ Read ts → length ts ≤ length text
