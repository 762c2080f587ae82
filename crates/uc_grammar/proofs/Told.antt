-- The laws of the grammar, from those of every form.
use Rattle.std.proofs.Common.{◌≡◌, ◌↔◌, ℕ, ◌+◌, ◌-◌, ◌≤◌, List, Some, refl, sym, subst, arith}
use Rattle.uc_tree.specs.declared.pos.Pos.{Pos}
use Rattle.uc_tree.specs.declared.token.Token.{Token}
use Rattle.uc_tree.specs.declared.token.TokenKind.TheVariants as token
use Rattle.uc_tree.specs.Expressions.{Expr, Part}
use Rattle.uc_tree.specs.Expressions as expr
use Rattle.uc_grammar.specs.declared.fault.ParseFault.TheVariants.{Syntax, TooDeep}
use Rattle.uc_grammar.specs.declared.level.Level.{Level}
use Rattle.uc_grammar.specs.declared.level.Level.TheVariants as level
use Rattle.uc_grammar.specs.Spell.{Same, kind_at, pos_at}
use Rattle.uc_grammar.specs.Form.{Form, here, bind, Spells, Fails}
use Rattle.uc_grammar.specs.Grammar.{unary_form, unary_by, postfix_form, primary_at, postfix_after, expr_form, expr_from, level_after, operand_form, chain_after, product_after, sum_after, comparison_after, equality_after, and_after, inner, faults}
use Rattle.uc_grammar.specs.Tables.{unary_of, sign_of}
use Rattle.uc_grammar.proofs.Fit.{moved}
use Rattle.uc_grammar.proofs.AllForms.{means, more_room}

pub syntax_refuses : {A : Type 0} (g : Form A) (room : ℕ) (ts : List Token) (from p : ℕ) → Fails (inner room) (faults room) g ts from (Syntax p) → (n : ℕ) (us : List Token) (to : ℕ) (v : A) → Same (p + 1) ts us → Spells (inner n) g us from to v → ⊥
syntax_refuses g room ts from p e n us to v same r = (means room g ts from (Syntax p) e).why.1 n us to v same r

pub too_deep_refuses : {A : Type 0} (g : Form A) (room : ℕ) (ts : List Token) (from k : ℕ) → Fails (inner room) (faults room) g ts from (TooDeep k) → (to : ℕ) (v : A) → Spells (inner room) g ts from to v → ⊥
too_deep_refuses g room ts from k e to v r = (means room g ts from (TooDeep k) e).why.1 to v r

pub room_up : {A : Type 0} (g : Form A) (m n : ℕ) (ts : List Token) (from to : ℕ) (v : A) → m ≤ n → Spells (inner m) g ts from to v → Spells (inner n) g ts from to v
room_up g m n ts from to v le r = let e : m + (n - m) ≡ n = omega arith in subst (λ k. Spells (inner k) g ts from to v) e (more_room (n - m) m g ts from to v r)

module _ (n : ℕ) (ts : List Token) (from to : ℕ) (e : Expr) where
  -- a level over the tighter one, whose pieces are a unary and what follows it
  over : (l : Level) (after : Pos → Expr → Form Expr) → Spells (inner n) (here (λ pos. bind unary_form (λ u. bind (after pos u) (chain_after l (here (λ p. bind unary_form (after p))) pos)))) ts from to e ↔ Spells (inner n) (here (λ pos. bind (here (λ p. bind unary_form (after p))) (chain_after l (here (λ p. bind unary_form (after p))) pos))) ts from to e
  over l after = (
    λ r. record { middle = r.second.middle; left = r.second.left; first = record { middle = r.middle; left = r.left; first = r.first; second = r.second.first }; second = r.second.second },
    λ r. record { middle = r.first.middle; left = r.first.left; first = r.first.first; second = record { middle = r.middle; left = r.left; first = r.first.second; second = r.second } },
  )

  pub levels_stand : (l : Level) → Spells (inner n) (here (λ pos. bind unary_form (level_after l pos))) ts from to e ↔ Spells (inner n) (here (λ pos. bind (operand_form l) (chain_after l (operand_form l) pos))) ts from to e
  levels_stand level.Product = (λ r. r, λ r. r)
  levels_stand level.Sum = over level.Sum product_after
  levels_stand level.Comparison = over level.Comparison sum_after
  levels_stand level.Equality = over level.Equality comparison_after
  levels_stand level.And = over level.And equality_after
  levels_stand level.Or = over level.Or and_after

  module _ (name : List ℕ) (is : kind_at ts from ≡ Some (token.Name name)) where
    named : Expr
    named = expr.Name (pos_at ts from) name

    pub name_ends : Spells (inner n) expr_form ts from to e → Spells (inner n) (expr_from (pos_at ts from) (expr.Name (pos_at ts from) name)) ts (from + 1) to e
    name_ends r =
        let pos = pos_at ts from in
        let q : Spells (inner n) postfix_form ts from r.middle r.left = subst (λ o. Spells (inner n) (unary_by (unary_of (sign_of o))) ts from r.middle r.left) is r.first in
        let p : Spells (inner n) (primary_at pos (Some (token.Name name))) ts from q.middle q.left = subst (λ o. Spells (inner n) (primary_at pos o) ts from q.middle q.left) is q.first in
        record {
          middle = r.middle;
          left = r.left;
          first = moved (λ x. Spells (inner n) (postfix_after pos x)) ts (from + 1) q.middle r.middle (expr.Name pos name) q.left r.left (sym p.0) (sym p.1) q.second;
          second = r.second;
        }

    pub name_begins : Spells (inner n) (expr_from (pos_at ts from) (expr.Name (pos_at ts from) name)) ts (from + 1) to e → Spells (inner n) expr_form ts from to e
    name_begins r =
        let pos = pos_at ts from in
        let p : Spells (inner n) (primary_at pos (Some (token.Name name))) ts from (from + 1) (expr.Name pos name) = (refl, refl) in
        let q : Spells (inner n) postfix_form ts from r.middle r.left = record { middle = from + 1; left = expr.Name pos name; first = subst (λ o. Spells (inner n) (primary_at pos o) ts from (from + 1) (expr.Name pos name)) (sym is) p; second = r.first } in
        record {
          middle = r.middle;
          left = r.left;
          first = subst (λ o. Spells (inner n) (unary_by (unary_of (sign_of o))) ts from r.middle r.left) (sym is) q;
          second = r.second;
        }
