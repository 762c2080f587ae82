-- One level deeper there is one level less left.
use Rattle.std.proofs.Common.{◌≡◌, ℕ, ◌+◌, suc, List, sym, ◌∙◌, add-one, refl, subst}
use Rattle.uc_tree.specs.declared.token.Token.{Token}
use Rattle.uc_grammar.specs.declared.fault.ParseFault.{ParseFault}
use Rattle.uc_grammar.specs.declared.fault.ParseFault.TheVariants.{TooDeep}
use Rattle.uc_grammar.specs.Names.{Name}
use Rattle.uc_grammar.specs.Form.{Spells, Fails}
use Rattle.uc_grammar.specs.Grammar.{form_of, inner, faults}

module _ (A : Type 0) (x : Name A) (below room : ℕ) (ts : List Token) (from : ℕ) where
  same_found : (to : ℕ) (v : A) → Spells (inner below) (form_of x) ts from to v → inner (suc below) A x ts from to v
  unfolding inner
  same_found to v r = r

  pub below_found : (to : ℕ) (v : A) → below + 1 ≡ room → Spells (inner below) (form_of x) ts from to v → inner room A x ts from to v
  below_found to v e r = subst (λ n. inner n A x ts from to v) (sym (add-one below) ∙ e) (same_found to v r)

  same_fails : (f : ParseFault) → Fails (inner below) (faults below) (form_of x) ts from f → faults (suc below) A x ts from f
  unfolding faults
  same_fails f h = h

  pub below_fails : (f : ParseFault) → below + 1 ≡ room → Fails (inner below) (faults below) (form_of x) ts from f → faults room A x ts from f
  below_fails f e h = subst (λ n. faults n A x ts from f) (sym (add-one below) ∙ e) (same_fails f h)

module _ (A : Type 0) (x : Name A) (room : ℕ) (ts : List Token) (from : ℕ) where
  none_here : faults 0 A x ts from (TooDeep from)
  unfolding faults
  none_here = refl

  pub none_below : (f : ParseFault) → (room ≡ 0) × (f ≡ TooDeep from) → faults room A x ts from f
  none_below f p = subst (λ n. faults n A x ts from f) (sym p.0) (subst (λ g. faults 0 A x ts from g) (sym p.1) none_here)
