-- The values that a variable starts with.
use Rattle.std.proofs.Common.{◌≡◌, Bool, true, false, List, [], ◌∷◌, length, refl, ◌∙◌, arith}
use Rattle.std.proofs.lemmas.Bool.Decides.{nat_tests}
use Rattle.std.specs.Bool.{◌==◌}
use Rattle.uc_tree.specs.Expressions.{Expr, exprs_of}
use Rattle.uc_rules.specs.Scopes.{Env}
use Rattle.uc_rules.specs.ExpressionBreaks.{are_single}

is_some : (e f : Expr) (es : List Expr) → (length (e ∷ f ∷ es) == 0) ≡ false
is_some e f es = grind (arith, nat_tests)

is_none : (length {A = Expr} [] == 0) ≡ true
is_none = grind (arith, nat_tests)

pub no_single : (env : Env) (es : List Expr) (b : Bool) → (length es ≡ 1 → ⊥) → b ≡ (length es == 0) → b ≡ are_single env (exprs_of es)
no_single env [] b h k = k ∙ is_none
no_single env (e ∷ []) b h k = absurd (h refl)
no_single env (e ∷ f ∷ es) b h k = k ∙ is_some e f es
