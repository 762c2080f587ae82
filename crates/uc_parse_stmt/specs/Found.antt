-- What the public call says of the tokens.
use Rattle.std.specs.Prelude.{◌≡◌, ℕ, ◌+◌, List}
use Rattle.uc_tree.specs.declared.token.Token.{Token}
use Rattle.uc_tree.specs.Statements.{Stmt}
use Rattle.uc_grammar.specs.Spell.{Same}
use Rattle.uc_grammar.specs.Names.{stmt_name}
use Rattle.uc_grammar.specs.Form.{inside}
use Rattle.uc_grammar.specs.Deep.{FirstDeep, first_deep}
use Rattle.uc_grammar.specs.Grammar.{inner}
use Rattle.uc_grammar.specs.Text.{IsStmt}

-- Whatever statement stands here, of whatever nesting, is this one, and ends there.
abbrev pub OnlyStmt : List Token → ℕ → ℕ → Stmt → Type 0
OnlyStmt ts from to s = (levels at : ℕ) (d : Stmt) → IsStmt levels ts from at d → (at ≡ to) × (d ≡ s)

-- Where a statement of greater nesting stands here, k is the first token of it at which something begins that stands
-- deeper than these levels allow.
abbrev pub FirstTooDeep : ℕ → List Token → ℕ → ℕ → Type 0
FirstTooDeep levels ts from k = (more to : ℕ) (s : Stmt) → IsStmt more ts from to s → FirstDeep (inner levels) (inner more) (first_deep levels more) (inside stmt_name) ts from to s k

-- No statement of this nesting stands here.
abbrev pub NoneHere : ℕ → List Token → ℕ → Type 0
NoneHere levels ts from = (to : ℕ) (s : Stmt) → IsStmt levels ts from to s → ⊥

-- No statement, of whatever nesting, stands here in tokens that begin with the first p + 1 of these. Where p is their
-- number, those are these tokens and no others.
abbrev pub NeverStmt : List Token → ℕ → ℕ → Type 0
NeverStmt ts p from = (us : List Token) (levels : ℕ) → Same (p + 1) ts us → NoneHere levels us from
