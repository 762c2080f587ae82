-- What the public call says of the tokens.
use Rattle.std.specs.Prelude.{◌≡◌, ℕ, ◌+◌, List, length}
use Rattle.uc_tree.specs.declared.token.Token.{Token}
use Rattle.uc_tree.specs.Programs.{Program}
use Rattle.uc_grammar.specs.Spell.{Same}
use Rattle.uc_grammar.specs.Deep.{FirstDeep, first_deep}
use Rattle.uc_grammar.specs.Grammar.{program_form, inner}
use Rattle.uc_grammar.specs.Text.{IsProgram}

-- Whatever program these tokens begin with, of whatever nesting, is this one, and they are all of it.
abbrev pub OnlyProgram : List Token → Program → Type 0
OnlyProgram ts p = (levels to : ℕ) (q : Program) → IsProgram levels ts 0 to q → (to ≡ length ts) × (q ≡ p)

-- These tokens begin with no program of this nesting.
abbrev pub NoProgram : ℕ → List Token → Type 0
NoProgram levels ts = (to : ℕ) (q : Program) → IsProgram levels ts 0 to q → ⊥

-- No tokens that begin with the first p + 1 of these are a program, of whatever nesting. Where p is their number, those
-- are these tokens and no others.
abbrev pub NeverProgram : List Token → ℕ → Type 0
NeverProgram ts p = (us : List Token) (levels : ℕ) → Same (p + 1) ts us → NoProgram levels us

-- Where these tokens are a program of greater nesting, k is the first token of it at which something begins that stands
-- deeper than these levels allow.
abbrev pub FirstTooDeep : ℕ → List Token → ℕ → Type 0
FirstTooDeep levels ts k = (more to : ℕ) (q : Program) → IsProgram more ts 0 to q → FirstDeep (inner levels) (inner more) (first_deep levels more) program_form ts 0 to q k
