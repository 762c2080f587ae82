-- What the answer of the public call says in plain words.
use Rattle.std.proofs.Common.{◌≡◌, ℕ, ◌+◌, ◌*◌, ◌-◌, ◌≤◌, List, refl, subst, arith}
use Rattle.uc_tree.specs.declared.token.Token.{Token}
use Rattle.uc_tree.specs.Expressions.{Expr}
use Rattle.uc_grammar.specs.declared.fault.ParseFault.{ParseFault}
use Rattle.uc_grammar.specs.declared.fault.ParseFault.TheVariants.{Syntax, TooDeep, NoMemory}
use Rattle.uc_grammar.specs.Form.{Spells, Fails}
use Rattle.uc_grammar.specs.Grammar.{expr_form, inner, faults}
use Rattle.uc_grammar.specs.Text.{IsExpr, ExprFails}
use Rattle.uc_grammar.proofs.AllForms.{one_piece}
use Rattle.uc_grammar.proofs.Told.{syntax_refuses, too_deep_refuses}
use Rattle.uc_grammar.proofs.Far.{expr_far}
use Rattle.uc_grammar.proofs.First.{first_too_deep}
use Rattle.uc_parse_expr.specs.Found.{OnlyExpr, NoExpr, NeverExpr, FirstTooDeep}

pub is_expr : (room : ℕ) (ts : List Token) (from to : ℕ) (e : Expr) → Spells (inner room) expr_form ts from to e → IsExpr room ts from to e
unfolding IsExpr
is_expr room ts from to e r = r

pub expr_fails : (room : ℕ) (ts : List Token) (from : ℕ) (f : ParseFault) → Fails (inner room) (faults room) expr_form ts from f → ExprFails room ts from f
unfolding ExprFails
expr_fails room ts from f h = h

pub only_expr : (room : ℕ) (ts : List Token) (from to : ℕ) (e : Expr) → Spells (inner room) expr_form ts from to e → OnlyExpr ts from to e
unfolding IsExpr
only_expr room ts from to e r = λ levels at d s. one_piece expr_form levels room ts from at to d e s r

pub no_expr : (room : ℕ) (ts : List Token) (from : ℕ) (f : ParseFault) → Fails (inner room) (faults room) expr_form ts from f → (f ≡ NoMemory → ⊥) → NoExpr room ts from
unfolding IsExpr
no_expr room ts from (Syntax p) h other = λ to e r. syntax_refuses expr_form room ts from p h room ts to e (λ i lt. refl) r
no_expr room ts from (TooDeep p) h other = λ to e r. too_deep_refuses expr_form room ts from p h to e r
no_expr room ts from NoMemory h other = absurd (other refl)

pub never_expr : (room : ℕ) (ts : List Token) (from : ℕ) (f : ParseFault) → Fails (inner room) (faults room) expr_form ts from f → (p : ℕ) → f ≡ Syntax p → NeverExpr ts p from
unfolding IsExpr
never_expr room ts from f h p e = λ us levels same to v r. syntax_refuses expr_form room ts from p (subst (λ g. Fails (inner room) (faults room) expr_form ts from g) e h) levels us to v same r

pub far_expr : (room depth : ℕ) (ts : List Token) (from : ℕ) (f : ParseFault) → Fails (inner room) (faults room) expr_form ts from f → (k : ℕ) → f ≡ TooDeep k → room + depth ≤ depth + 2 * (k - from) + 1
far_expr room depth ts from f h k e = omega (arith, expr_far room ts from k (subst (λ g. Fails (inner room) (faults room) expr_form ts from g) e h))

pub first_expr : (room : ℕ) (ts : List Token) (from : ℕ) (f : ParseFault) → Fails (inner room) (faults room) expr_form ts from f → (k : ℕ) → f ≡ TooDeep k → FirstTooDeep room ts from k
unfolding IsExpr
first_expr room ts from f h k e = λ more to v r. first_too_deep expr_form room more ts from to k v (subst (λ g. Fails (inner room) (faults room) expr_form ts from g) e h) r
