-- Steps of a reader that the search does not find.
use Rattle.std.proofs.Common.{◌≡◌, ℕ, zero, suc, ◌-◌, ◌<◌, List, Some, refl, subst, arith}
use Rattle.uc_tree.specs.declared.pos.Pos.{Pos}
use Rattle.uc_tree.specs.declared.token.Token.{Token}
use Rattle.uc_tree.specs.Expressions.{Expr}
use Rattle.uc_grammar.specs.declared.fault.ParseFault.{ParseFault}
use Rattle.uc_grammar.specs.declared.fault.ParseFault.TheVariants.{TooDeep}
use Rattle.uc_grammar.specs.declared.level.Level.{Level}
use Rattle.uc_grammar.specs.declared.level.Level.TheVariants as level
use Rattle.uc_grammar.specs.Names.{Name}
use Rattle.uc_grammar.specs.Spell.{pos_at}
use Rattle.uc_grammar.specs.Form.{Form, bind, Spells, Fails}
use Rattle.uc_grammar.specs.Grammar.{unary_form, chain_after, level_after, operand_form, form_of, inner, faults}
use Rattle.uc_parse_expr.specs.Levels.{tighter_of}

less_one : (k : ℕ) → suc k - 1 ≡ k
less_one k = omega arith

-- One level deeper there is one level less left.
pub deeper : (A : Type 0) (x : Name A) (room : ℕ) (ts : List Token) (from to : ℕ) (v : A) → 0 < room → Spells (inner (room - 1)) (form_of x) ts from to v → inner room A x ts from to v
unfolding inner
deeper A x zero ts from to v lt r = absurd (omega arith)
deeper A x (suc k) ts from to v lt r = subst (λ m. Spells (inner m) (form_of x) ts from to v) (less_one k) r

pub deeper_fails : (A : Type 0) (x : Name A) (room : ℕ) (ts : List Token) (from : ℕ) (f : ParseFault) → 0 < room → Fails (inner (room - 1)) (faults (room - 1)) (form_of x) ts from f → faults room A x ts from f
unfolding faults
deeper_fails A x zero ts from f lt r = absurd (omega arith)
deeper_fails A x (suc k) ts from f lt r = subst (λ m. Fails (inner m) (faults m) (form_of x) ts from f) (less_one k) r

pub no_room : (A : Type 0) (x : Name A) (ts : List Token) (from : ℕ) → faults 0 A x ts from (TooDeep from)
unfolding faults
no_room A x ts from = refl

-- A form that depends on what a token is.
module _ {A X : Type 0} (room : ℕ) (ts : List Token) (from : ℕ) where
  pub by_found : (k : X → Form A) (x y : X) (to : ℕ) (v : A) → x ≡ y → Spells (inner room) (k x) ts from to v → Spells (inner room) (k y) ts from to v
  by_found k x y to v e r = subst (λ z. Spells (inner room) (k z) ts from to v) e r

  pub by_fails : (k : X → Form A) (x y : X) (f : ParseFault) → x ≡ y → Fails (inner room) (faults room) (k x) ts from f → Fails (inner room) (faults room) (k y) ts from f
  by_fails k x y f e r = subst (λ z. Fails (inner room) (faults room) (k z) ts from f) e r

-- The forms of a level are made of those of the next tighter one.
module _ (room : ℕ) (ts : List Token) (from : ℕ) (pos : Pos) (u : Expr) where
  abbrev After : Level → Level → Form Expr
  After l t = bind (level_after t pos u) (chain_after l (operand_form l) pos)

  pub after_found : (l t : Level) (to : ℕ) (v : Expr) → tighter_of l ≡ Some t → Spells (inner room) (After l t) ts from to v → Spells (inner room) (level_after l pos u) ts from to v
  after_found level.Product t to v e r = cc
  after_found level.Sum t to v e r = let q : t ≡ level.Product = cc in subst (λ z. Spells (inner room) (After level.Sum z) ts from to v) q r
  after_found level.Comparison t to v e r = let q : t ≡ level.Sum = cc in subst (λ z. Spells (inner room) (After level.Comparison z) ts from to v) q r
  after_found level.Equality t to v e r = let q : t ≡ level.Comparison = cc in subst (λ z. Spells (inner room) (After level.Equality z) ts from to v) q r
  after_found level.And t to v e r = let q : t ≡ level.Equality = cc in subst (λ z. Spells (inner room) (After level.And z) ts from to v) q r
  after_found level.Or t to v e r = let q : t ≡ level.And = cc in subst (λ z. Spells (inner room) (After level.Or z) ts from to v) q r

  pub after_fails : (l t : Level) (f : ParseFault) → tighter_of l ≡ Some t → Fails (inner room) (faults room) (After l t) ts from f → Fails (inner room) (faults room) (level_after l pos u) ts from f
  after_fails level.Product t f e r = cc
  after_fails level.Sum t f e r = let q : t ≡ level.Product = cc in subst (λ z. Fails (inner room) (faults room) (After level.Sum z) ts from f) q r
  after_fails level.Comparison t f e r = let q : t ≡ level.Sum = cc in subst (λ z. Fails (inner room) (faults room) (After level.Comparison z) ts from f) q r
  after_fails level.Equality t f e r = let q : t ≡ level.Comparison = cc in subst (λ z. Fails (inner room) (faults room) (After level.Equality z) ts from f) q r
  after_fails level.And t f e r = let q : t ≡ level.Equality = cc in subst (λ z. Fails (inner room) (faults room) (After level.And z) ts from f) q r
  after_fails level.Or t f e r = let q : t ≡ level.And = cc in subst (λ z. Fails (inner room) (faults room) (After level.Or z) ts from f) q r

module _ (room : ℕ) (ts : List Token) (from : ℕ) where
  abbrev Operand : Level → Form Expr
  Operand t = bind unary_form (level_after t (pos_at ts from))

  pub operand_found : (l t : Level) (to : ℕ) (v : Expr) → tighter_of l ≡ Some t → Spells (inner room) (Operand t) ts from to v → Spells (inner room) (operand_form l) ts from to v
  operand_found level.Product t to v e r = cc
  operand_found level.Sum t to v e r = let q : t ≡ level.Product = cc in subst (λ z. Spells (inner room) (Operand z) ts from to v) q r
  operand_found level.Comparison t to v e r = let q : t ≡ level.Sum = cc in subst (λ z. Spells (inner room) (Operand z) ts from to v) q r
  operand_found level.Equality t to v e r = let q : t ≡ level.Comparison = cc in subst (λ z. Spells (inner room) (Operand z) ts from to v) q r
  operand_found level.And t to v e r = let q : t ≡ level.Equality = cc in subst (λ z. Spells (inner room) (Operand z) ts from to v) q r
  operand_found level.Or t to v e r = let q : t ≡ level.And = cc in subst (λ z. Spells (inner room) (Operand z) ts from to v) q r

  pub operand_fails : (l t : Level) (f : ParseFault) → tighter_of l ≡ Some t → Fails (inner room) (faults room) (Operand t) ts from f → Fails (inner room) (faults room) (operand_form l) ts from f
  operand_fails level.Product t f e r = cc
  operand_fails level.Sum t f e r = let q : t ≡ level.Product = cc in subst (λ z. Fails (inner room) (faults room) (Operand z) ts from f) q r
  operand_fails level.Comparison t f e r = let q : t ≡ level.Sum = cc in subst (λ z. Fails (inner room) (faults room) (Operand z) ts from f) q r
  operand_fails level.Equality t f e r = let q : t ≡ level.Comparison = cc in subst (λ z. Fails (inner room) (faults room) (Operand z) ts from f) q r
  operand_fails level.And t f e r = let q : t ≡ level.Equality = cc in subst (λ z. Fails (inner room) (faults room) (Operand z) ts from f) q r
  operand_fails level.Or t f e r = let q : t ≡ level.And = cc in subst (λ z. Fails (inner room) (faults room) (Operand z) ts from f) q r
