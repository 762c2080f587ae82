-- Why a tree of few levels is not deep.
use Rattle.std.proofs.Common.{◌≡◌, ℕ, ◌+◌, ◌*◌, ◌≤◌, Bool, true, false, refl, arith}
use Rattle.std.proofs.Math.Nat.{max-le, le-max_left, le-max_right}
use Rattle.std.specs.Prelude.{max, nat_le, if◌then◌else◌}
use Rattle.std.proofs.lemmas.Bool.{leb-true}
use Rattle.uc_tree.specs.declared.ops.BinaryOp.{BinaryOp}
use Rattle.uc_tree.specs.declared.ops.BinaryOp.TheVariants as binary
use Rattle.uc_tree.specs.Expressions.{Expr, Number, Character, Truth, Name, Cin, Postfix, Unary, Chain, Assign, Exprs, NoExprs, MoreExprs, Part, Field, Index, Call, Step, Parts, NoParts, MoreParts, Linked, Links, NoLinks, MoreLinks}
use Rattle.uc_nesting.specs.ExpressionNesting.{primary, unary, operand_looseness, sides_looseness, looseness, levels_in, args_nesting, part_nesting, parts_nesting, links_nesting, nesting_at, right_nesting}
use Rattle.uc_nesting.specs.Depth.{expr_depth, exprs_depth, part_depth, parts_depth, links_depth}

-- two ways that are not longer than what is allowed for the deeper one
pub deeper_of : (c x y a b : ℕ) → a ≤ 11 * x + c → b ≤ 11 * y + c → max a b ≤ 11 * max x y + c
deeper_of c x y a b h g = max-le (omega (arith, h, le-max_left x y)) (omega (arith, g, le-max_right x y))

operand_tight : (op : BinaryOp) → operand_looseness op ≤ 7
operand_tight binary.Mul = omega arith
operand_tight binary.Div = omega arith
operand_tight binary.Rem = omega arith
operand_tight binary.Add = omega arith
operand_tight binary.Sub = omega arith
operand_tight binary.Less = omega arith
operand_tight binary.LessEqual = omega arith
operand_tight binary.Greater = omega arith
operand_tight binary.GreaterEqual = omega arith
operand_tight binary.Equal = omega arith
operand_tight binary.NotEqual = omega arith
operand_tight binary.And = omega arith
operand_tight binary.Or = omega arith

sides_tight : (ls : Links) → sides_looseness ls ≤ 7
sides_tight NoLinks = omega arith
sides_tight (MoreLinks (Linked sign op right) rest) = max-le (operand_tight op) (sides_tight rest)

-- of an expression, anywhere and on the right of an assignment
pub record IsShallow (e : Expr) : Type 0 where
  pub anywhere : expr_depth e ≤ 11 * levels_in e false + looseness e + 2
  pub right : expr_depth e ≤ 11 * levels_in e true + 10
  pub tight : looseness e ≤ 9

by_place : (b : Bool) (k own n d : ℕ) → (b ≡ true → own ≤ k) → own ≤ 9 → d ≤ 11 * n + own + 2 → d ≤ 11 * (if b then n else n + 1) + (k + 2)
by_place true k own n d h tight g = let le : own ≤ k = h refl in omega (arith, g, le)
by_place false k own n d h tight g = omega (arith, g, tight)

-- where it stands at a place that allows only what is not looser
pub in_place : (k : ℕ) (e : Expr) → IsShallow e → expr_depth e ≤ 11 * nesting_at k e + (k + 2)
in_place k e h = by_place (nat_le (looseness e) k) k (looseness e) (levels_in e false) (expr_depth e) (λ t. leb-true (looseness e) k t) h.tight h.anywhere

-- where any may stand
pub whole : (e : Expr) → IsShallow e → expr_depth e ≤ 11 * levels_in e false + 11
whole e h = omega (arith, h.anywhere, h.tight)

mutual
  pub shallow : (e : Expr) → IsShallow e
  shallow (Number pos value) = record { anywhere = omega arith; right = omega arith; tight = omega arith }
  shallow (Character pos byte) = record { anywhere = omega arith; right = omega arith; tight = omega arith }
  shallow (Truth pos value) = record { anywhere = omega arith; right = omega arith; tight = omega arith }
  shallow (Name pos name) = record { anywhere = omega arith; right = omega arith; tight = omega arith }
  shallow (Cin pos) = record { anywhere = omega arith; right = omega arith; tight = omega arith }
  shallow (Postfix pos root parts) =
      let inner : max (expr_depth root) (parts_depth parts) ≤ 11 * max (nesting_at primary root) (parts_nesting parts) + 2 = deeper_of 2 (nesting_at primary root) (parts_nesting parts) (expr_depth root) (parts_depth parts) (in_place primary root (shallow root)) (omega (arith, shallow_parts parts)) in
      record { anywhere = omega (arith, inner); right = omega (arith, inner); tight = omega arith }
  shallow (Unary pos op operand) =
      let inner : expr_depth operand ≤ 11 * nesting_at unary operand + 4 = in_place unary operand (shallow operand) in
      record { anywhere = omega (arith, inner); right = omega (arith, inner); tight = omega arith }
  shallow (Chain pos first rest) =
      let inner : max (expr_depth first) (links_depth rest) ≤ 11 * max (nesting_at (sides_looseness rest) first) (links_nesting rest) + (sides_looseness rest + 2) = deeper_of (sides_looseness rest + 2) (nesting_at (sides_looseness rest) first) (links_nesting rest) (expr_depth first) (links_depth rest) (in_place (sides_looseness rest) first (shallow first)) (shallow_links rest) in
      record { anywhere = omega (arith, inner); right = omega (arith, inner, sides_tight rest); tight = omega (arith, sides_tight rest) }
  shallow (Assign pos sign op place value) =
      let inner : max (expr_depth place) (expr_depth value) ≤ 11 * max (nesting_at unary place) (right_nesting value) + 10 = deeper_of 10 (nesting_at unary place) (right_nesting value) (expr_depth place) (expr_depth value) (omega (arith, in_place unary place (shallow place))) (shallow value).right in
      let further : max (expr_depth place) (expr_depth value) ≤ 11 * max (nesting_at unary place) (right_nesting value + 1) + 9 = deeper_of 9 (nesting_at unary place) (right_nesting value + 1) (expr_depth place) (expr_depth value) (omega (arith, in_place unary place (shallow place))) (omega (arith, (shallow value).right)) in
      record { anywhere = omega (arith, inner); right = omega (arith, further); tight = omega arith }

  pub shallow_args : (es : Exprs) → exprs_depth es ≤ 11 * args_nesting es
  shallow_args NoExprs = omega arith
  shallow_args (MoreExprs first rest) = omega (arith, deeper_of 0 (levels_in first false + 1) (args_nesting rest) (expr_depth first) (exprs_depth rest) (omega (arith, whole first (shallow first))) (omega (arith, shallow_args rest)))

  shallow_part : (p : Part) → part_depth p ≤ 11 * part_nesting p
  shallow_part (Field sign name) = omega arith
  shallow_part (Index sign index) = omega (arith, whole index (shallow index))
  shallow_part (Call sign args) = shallow_args args
  shallow_part (Step sign op) = omega arith

  shallow_parts : (ps : Parts) → parts_depth ps ≤ 11 * parts_nesting ps
  shallow_parts NoParts = omega arith
  shallow_parts (MoreParts first rest) = omega (arith, deeper_of 0 (part_nesting first) (parts_nesting rest) (part_depth first) (parts_depth rest) (omega (arith, shallow_part first)) (omega (arith, shallow_parts rest)))

  shallow_links : (ls : Links) → links_depth ls ≤ 11 * links_nesting ls + (sides_looseness ls + 2)
  shallow_links NoLinks = omega arith
  shallow_links (MoreLinks (Linked sign op right) rest) =
      let k = sides_looseness (MoreLinks (Linked sign op right) rest) in
      let one : operand_looseness op ≤ k = le-max_left (operand_looseness op) (sides_looseness rest) in
      let others : sides_looseness rest ≤ k = le-max_right (operand_looseness op) (sides_looseness rest) in
      deeper_of (k + 2) (nesting_at (operand_looseness op) right) (links_nesting rest) (expr_depth right) (links_depth rest) (omega (arith, in_place (operand_looseness op) right (shallow right), one)) (omega (arith, shallow_links rest, others))
