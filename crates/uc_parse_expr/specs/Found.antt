-- What the public call says of the tokens.
use Rattle.std.specs.Prelude.{◌≡◌, ℕ, ◌+◌, List}
use Rattle.uc_tree.specs.declared.token.Token.{Token}
use Rattle.uc_tree.specs.Expressions.{Expr}
use Rattle.uc_grammar.specs.Spell.{Same}
use Rattle.uc_grammar.specs.Deep.{FirstDeep, first_deep}
use Rattle.uc_grammar.specs.Grammar.{expr_form, inner}
use Rattle.uc_grammar.specs.Text.{IsExpr}

-- Whatever expression stands here, of whatever nesting, is this one, and ends there.
abbrev pub OnlyExpr : List Token → ℕ → ℕ → Expr → Type 0
OnlyExpr ts from to e = (levels at : ℕ) (d : Expr) → IsExpr levels ts from at d → (at ≡ to) × (d ≡ e)

-- Where an expression of greater nesting stands here, k is the first token of it at which something begins that stands
-- deeper than these levels allow.
abbrev pub FirstTooDeep : ℕ → List Token → ℕ → ℕ → Type 0
FirstTooDeep levels ts from k = (more to : ℕ) (e : Expr) → IsExpr more ts from to e → FirstDeep (inner levels) (inner more) (first_deep levels more) expr_form ts from to e k

-- No expression of this nesting stands here.
abbrev pub NoExpr : ℕ → List Token → ℕ → Type 0
NoExpr levels ts from = (to : ℕ) (e : Expr) → IsExpr levels ts from to e → ⊥

-- No expression, of whatever nesting, stands here in tokens that begin with the first p + 1 of these. Where p is their
-- number, those are these tokens and no others.
abbrev pub NeverExpr : List Token → ℕ → ℕ → Type 0
NeverExpr ts p from = (us : List Token) (levels : ℕ) → Same (p + 1) ts us → NoExpr levels us from
