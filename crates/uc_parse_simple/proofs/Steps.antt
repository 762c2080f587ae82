-- Steps of a reader that the search does not find.
use Rattle.std.proofs.Common.{◌≡◌, ℕ, ◌+◌, List, Some, inl, inr, subst}
use Rattle.uc_tree.specs.declared.token.Token.{Token}
use Rattle.uc_tree.specs.declared.token.TokenKind.{TokenKind}
use Rattle.uc_grammar.specs.declared.fault.ParseFault.{ParseFault}
use Rattle.uc_grammar.specs.Spell.{kind_at}
use Rattle.uc_grammar.specs.Form.{Form, expect, Spells, Fails}
use Rattle.uc_grammar.specs.Grammar.{inner, faults}

-- What stands behind a token that must be there.
module _ {A : Type 0} (room : ℕ) (ts : List Token) (t : TokenKind) (g : Form A) (from at : ℕ) where
  pub behind_found : (to : ℕ) (v : A) → (kind_at ts from ≡ Some t) × (at ≡ from + 1) → Spells (inner room) g ts at to v → Spells (inner room) (expect t g) ts from to v
  behind_found to v p r = (p.0, subst (λ n. Spells (inner room) g ts n to v) p.1 r)

  pub behind_fails : (f : ParseFault) → (kind_at ts from ≡ Some t) × (at ≡ from + 1) → Fails (inner room) (faults room) g ts at f → Fails (inner room) (faults room) (expect t g) ts from f
  behind_fails f p r = inr (inl (p.0, subst (λ n. Fails (inner room) (faults room) g ts n f) p.1 r))
