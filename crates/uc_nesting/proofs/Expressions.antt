-- The forms of expressions within n levels.
use Rattle.std.proofs.Common.{◌≡◌, ℕ, ◌+◌, ◌≤◌, List, [], ◌∷◌, Option, Some, None, refl, sym, subst, arith}
use Rattle.std.proofs.Math.Nat.{max-le, le-max_left, le-max_right}
use Rattle.std.specs.Prelude.{max}
use Rattle.uc_tree.specs.declared.pos.Pos.{Pos}
use Rattle.uc_tree.specs.declared.ops.UnaryOp.{UnaryOp}
use Rattle.uc_tree.specs.declared.ops.BinaryOp.{BinaryOp}
use Rattle.uc_tree.specs.declared.ops.AssignOp.{AssignOp}
use Rattle.uc_tree.specs.declared.token.TokenKind.{TokenKind}
use Rattle.uc_tree.specs.declared.token.TokenKind.TheVariants as token
use Rattle.uc_tree.specs.declared.token.Word.TheVariants as word
use Rattle.uc_tree.specs.declared.token.Sign.{Sign}
use Rattle.uc_tree.specs.declared.token.Sign.TheVariants as sign
use Rattle.uc_tree.specs.Expressions.{Expr, Assign, Part, Link, Linked, exprs_of, parts_of, links_of}
use Rattle.uc_grammar.specs.declared.level.Level.{Level}
use Rattle.uc_grammar.specs.declared.level.Level.TheVariants as level
use Rattle.uc_grammar.specs.Form.{Form, inside}
use Rattle.uc_grammar.specs.Names.{right_name}
use Rattle.uc_grammar.specs.Tables.{sign_of, unary_of, binary_of, assign_of, product_of, sum_of, comparison_of, equality_of, and_of, or_of}
use Rattle.uc_grammar.specs.Grammar.{before, comma_list, chained, with_parts, name_form, primary_at, arguments_form, closed_arguments, part_at, postfix_after, postfix_form, unary_by, unary_form, link_by, chain_after, product_after, product_form, sum_after, sum_form, comparison_after, comparison_form, equality_after, equality_form, and_after, and_form, or_after, assigned_by, right_form, expr_after, expr_form, expr_from, maybe_expr}
use Rattle.uc_nesting.specs.ExpressionNesting.{primary, postfix, unary, product, sum, comparison, equality, conjunction, disjunction, operand_looseness, sides_looseness, args_nesting, part_nesting, parts_nesting, link_nesting, links_nesting, nesting_at, expr_nesting, right_nesting}
use Rattle.uc_nesting.specs.StatementNesting.{maybe_expr_nesting}
use Rattle.uc_nesting.proofs.Sure.{Sure, Each, sure_nothing, sure_empty, sure_skip, sure_expect, sure_or, sure_look, sure_here, sure_bind, sure_apply, sure_many, sure_listed, sure_so, any_piece}
use Rattle.uc_nesting.proofs.Enclosed.{none, enclosed_same, looser, bare, in_parentheses}
use Rattle.uc_nesting.proofs.Levels.{Levels}

-- at a place that allows only what is not looser
abbrev pub At : ℕ → ℕ → Expr → Type 0
At allowed n e = nesting_at allowed e ≤ n

pub sure_before : {A : Type 0} {n : ℕ} {g : Form A} {s : Sign} {Q : A → Type 0} → Sure n g Q → Sure n (before g s) Q
sure_before h = sure_bind h (λ x q. sure_expect (sure_empty q))

pub sure_list : {A : Type 0} {n : ℕ} {g : Form A} {R : A → Type 0} → Sure n g R → Sure n (comma_list g) (Each R)
sure_list h = sure_listed h (sure_skip h)

-- Lists.

pub args_le : (n : ℕ) (es : List Expr) → Each (λ e. expr_nesting e + 1 ≤ n) es → args_nesting (exprs_of es) ≤ n
args_le n [] h = none n
args_le n (e ∷ es) h = max-le h.0 (args_le n es h.1)

parts_le : (n : ℕ) (ps : List Part) → Each (λ p. part_nesting p ≤ n) ps → parts_nesting (parts_of ps) ≤ n
parts_le n [] h = none n
parts_le n (p ∷ ps) h = max-le h.0 (parts_le n ps h.1)

parted : (n : ℕ) (pos : Pos) (e : Expr) (ps : List Part) → At primary n e → Each (λ p. part_nesting p ≤ n) ps → At postfix n (with_parts pos e ps)
parted n pos e [] w h = looser primary postfix n e (omega arith) w
parted n pos e (p ∷ ps) w h = max-le w (parts_le n (p ∷ ps) h)

-- an operator of the level whose operands are so loose, with its right side
abbrev LinkWithin : ℕ → ℕ → Link → Type 0
LinkWithin r n (Linked own op right) = (operand_looseness op ≡ r) × (nesting_at r right ≤ n)

link_le : (r n : ℕ) (x : Link) → LinkWithin r n x → link_nesting x ≤ n
link_le r n (Linked own op right) h = subst (λ k. nesting_at k right ≤ n) (sym h.0) h.1

links_le : (r n : ℕ) (xs : List Link) → Each (LinkWithin r n) xs → links_nesting (links_of xs) ≤ n
links_le r n [] h = none n
links_le r n (x ∷ xs) h = max-le (link_le r n x h.0) (links_le r n xs h.1)

sides_le : (r n : ℕ) (xs : List Link) → Each (LinkWithin r n) xs → sides_looseness (links_of xs) ≤ r
sides_le r n [] h = none r
sides_le r n (Linked own op right ∷ xs) h = max-le (omega (arith, h.0.0)) (sides_le r n xs h.1)

linked : (r n : ℕ) (pos : Pos) (e : Expr) (xs : List Link) → At r n e → Each (LinkWithin r n) xs → At (r + 1) n (chained pos e xs)
linked r n pos e [] w h = looser r (r + 1) n e (omega arith) w
linked r n pos e (Linked own op right ∷ xs) w h =
    let links = links_of (Linked own op right ∷ xs) in
    let low : r ≤ sides_looseness links = omega (arith, h.0.0, le-max_left (operand_looseness op) (sides_looseness (links_of xs))) in
    let inner : max (nesting_at (sides_looseness links) e) (links_nesting links) ≤ n = max-le (looser r (sides_looseness links) n e low w) (links_le r n (Linked own op right ∷ xs) h) in
    subst (λ k. k ≤ n) (sym (enclosed_same (r + 1) (sides_looseness links + 1) _ (omega (arith, sides_le r n (Linked own op right ∷ xs) h)))) inner

-- an assignment on the right of another, and what is none
on_right : (n : ℕ) (e : Expr) → At disjunction n e → right_nesting e ≤ n
on_right n (Assign pos own op place value) w = max-le (omega (arith, w, le-max_left (nesting_at unary place) (right_nesting value))) (omega (arith, w, le-max_right (nesting_at unary place) (right_nesting value)))
on_right n e w = bare disjunction n e w

-- The operators of each level.

abbrev OpsOf : ℕ → Option BinaryOp → Type 0
OpsOf r None = Unit {0}
OpsOf r (Some op) = operand_looseness op ≡ r

product_ops : (s : Option Sign) → OpsOf unary (product_of s)
product_ops (Some sign.Star) = refl
product_ops (Some sign.Slash) = refl
product_ops (Some sign.Percent) = refl
product_ops _ = tt

sum_ops : (s : Option Sign) → OpsOf product (sum_of s)
sum_ops (Some sign.Plus) = refl
sum_ops (Some sign.Minus) = refl
sum_ops _ = tt

comparison_ops : (s : Option Sign) → OpsOf sum (comparison_of s)
comparison_ops (Some sign.Less) = refl
comparison_ops (Some sign.LessEqual) = refl
comparison_ops (Some sign.Greater) = refl
comparison_ops (Some sign.GreaterEqual) = refl
comparison_ops _ = tt

equality_ops : (s : Option Sign) → OpsOf comparison (equality_of s)
equality_ops (Some sign.Equal) = refl
equality_ops (Some sign.NotEqual) = refl
equality_ops _ = tt

and_ops : (s : Option Sign) → OpsOf equality (and_of s)
and_ops (Some sign.AndAnd) = refl
and_ops _ = tt

or_ops : (s : Option Sign) → OpsOf conjunction (or_of s)
or_ops (Some sign.OrOr) = refl
or_ops _ = tt

link_sure : (r n : ℕ) (operand : Form Expr) → Sure n operand (At r n) → (b : Option BinaryOp) → OpsOf r b → Sure n (link_by operand b) (LinkWithin r n)
link_sure r n operand s None h = sure_nothing
link_sure r n operand s (Some op) h = sure_here (λ own. sure_skip (sure_apply s (λ right w. (h, w))))

chain_sure : (r n : ℕ) (l : Level) (operand : Form Expr) → Sure n operand (At r n) → ((s : Option Sign) → OpsOf r (binary_of l s)) → (pos : Pos) (u : Expr) → At r n u → Sure n (chain_after l operand pos u) (At (r + 1) n)
chain_sure r n l operand s ops pos u w = sure_apply (sure_many (sure_look (λ o. link_sure r n operand s (binary_of l (sign_of o)) (ops (sign_of o))))) (λ xs h. linked r n pos u xs w h)

module _ (n : ℕ) (h : Levels n) where
  primary_at_sure : (pos : Pos) (o : Option TokenKind) → Sure n (primary_at pos o) (At primary n)
  primary_at_sure pos (Some (token.Number m)) = sure_skip (sure_empty (none n))
  primary_at_sure pos (Some (token.Character c)) = sure_skip (sure_empty (none n))
  primary_at_sure pos (Some (token.Word word.True)) = sure_skip (sure_empty (none n))
  primary_at_sure pos (Some (token.Word word.False)) = sure_skip (sure_empty (none n))
  primary_at_sure pos (Some (token.Name m)) = sure_skip (sure_empty (none n))
  primary_at_sure pos (Some (token.Word word.Cin)) = sure_skip (sure_empty (none n))
  primary_at_sure pos (Some (token.Sign sign.OpenParen)) = sure_skip (sure_before (sure_so h.in_expr (λ e w. in_parentheses primary n e w)))
  primary_at_sure pos _ = sure_nothing

  pub arguments_sure : Sure n arguments_form (Each (λ e. expr_nesting e + 1 ≤ n))
  arguments_sure = sure_list h.in_expr

  pub closed_sure : (s : Sign) → Sure n (closed_arguments s) (Each (λ e. expr_nesting e + 1 ≤ n))
  closed_sure s = sure_or (sure_empty tt) (sure_before arguments_sure)

  part_at_sure : (own : Pos) (o : Option TokenKind) → Sure n (part_at own o) (λ p. part_nesting p ≤ n)
  part_at_sure own (Some (token.Sign sign.Dot)) = sure_skip (sure_apply (any_piece n name_form) (λ m t. none n))
  part_at_sure own (Some (token.Sign sign.OpenBracket)) = sure_skip (sure_apply (sure_before h.in_expr) (λ e w. w))
  part_at_sure own (Some (token.Sign sign.OpenParen)) = sure_skip (sure_apply (closed_sure sign.CloseParen) (λ es w. args_le n es w))
  part_at_sure own (Some (token.Sign sign.Increment)) = sure_skip (sure_empty (none n))
  part_at_sure own (Some (token.Sign sign.Decrement)) = sure_skip (sure_empty (none n))
  part_at_sure own _ = sure_nothing

  postfix_after_sure : (pos : Pos) (e : Expr) → At primary n e → Sure n (postfix_after pos e) (At postfix n)
  postfix_after_sure pos e w = sure_apply (sure_many (sure_here (λ own. sure_look (λ o. part_at_sure own o)))) (λ ps v. parted n pos e ps w v)

  pub postfix_sure : Sure n postfix_form (At postfix n)
  postfix_sure = sure_here (λ pos. sure_bind (sure_here (λ own. sure_look (λ o. primary_at_sure own o))) (λ e w. postfix_after_sure pos e w))

  unary_by_sure : (u : Option UnaryOp) → Sure n (unary_by u) (At unary n)
  unary_by_sure None = sure_so postfix_sure (λ e w. looser postfix unary n e (omega arith) w)
  unary_by_sure (Some op) = sure_here (λ pos. sure_skip (sure_apply h.in_unary (λ e w. w)))

  pub unary_sure : Sure n unary_form (At unary n)
  unary_sure = sure_look (λ o. unary_by_sure (unary_of (sign_of o)))

  product_after_sure : (pos : Pos) (u : Expr) → At unary n u → Sure n (product_after pos u) (At product n)
  product_after_sure pos u w = chain_sure unary n level.Product unary_form unary_sure product_ops pos u w

  product_sure : Sure n product_form (At product n)
  product_sure = sure_here (λ pos. sure_bind unary_sure (λ u w. product_after_sure pos u w))

  sum_after_sure : (pos : Pos) (u : Expr) → At unary n u → Sure n (sum_after pos u) (At sum n)
  sum_after_sure pos u w = sure_bind (product_after_sure pos u w) (λ e v. chain_sure product n level.Sum product_form product_sure sum_ops pos e v)

  pub sum_sure : Sure n sum_form (At sum n)
  sum_sure = sure_here (λ pos. sure_bind unary_sure (λ u w. sum_after_sure pos u w))

  comparison_after_sure : (pos : Pos) (u : Expr) → At unary n u → Sure n (comparison_after pos u) (At comparison n)
  comparison_after_sure pos u w = sure_bind (sum_after_sure pos u w) (λ e v. chain_sure sum n level.Comparison sum_form sum_sure comparison_ops pos e v)

  comparison_sure : Sure n comparison_form (At comparison n)
  comparison_sure = sure_here (λ pos. sure_bind unary_sure (λ u w. comparison_after_sure pos u w))

  equality_after_sure : (pos : Pos) (u : Expr) → At unary n u → Sure n (equality_after pos u) (At equality n)
  equality_after_sure pos u w = sure_bind (comparison_after_sure pos u w) (λ e v. chain_sure comparison n level.Equality comparison_form comparison_sure equality_ops pos e v)

  equality_sure : Sure n equality_form (At equality n)
  equality_sure = sure_here (λ pos. sure_bind unary_sure (λ u w. equality_after_sure pos u w))

  and_after_sure : (pos : Pos) (u : Expr) → At unary n u → Sure n (and_after pos u) (At conjunction n)
  and_after_sure pos u w = sure_bind (equality_after_sure pos u w) (λ e v. chain_sure equality n level.And equality_form equality_sure and_ops pos e v)

  and_sure : Sure n and_form (At conjunction n)
  and_sure = sure_here (λ pos. sure_bind unary_sure (λ u w. and_after_sure pos u w))

  or_after_sure : (pos : Pos) (u : Expr) → At unary n u → Sure n (or_after pos u) (At disjunction n)
  or_after_sure pos u w = sure_bind (and_after_sure pos u w) (λ e v. chain_sure conjunction n level.Or and_form and_sure or_ops pos e v)

  right_by_sure : (pos : Pos) (u : Expr) → At unary n u → (a : Option AssignOp) → Sure n (assigned_by (inside right_name) pos u a) (λ e. right_nesting e ≤ n)
  right_by_sure pos u w None = sure_so (or_after_sure pos u w) (λ e v. on_right n e v)
  right_by_sure pos u w (Some op) = sure_here (λ own. sure_skip (sure_apply h.in_right (λ e v. max-le w v)))

  pub right_sure : Sure n right_form (λ e. right_nesting e ≤ n)
  right_sure = sure_here (λ pos. sure_bind unary_sure (λ u w. sure_look (λ o. right_by_sure pos u w (assign_of (sign_of o)))))

  assigned_sure : (pos : Pos) (u : Expr) → At unary n u → (a : Option AssignOp) → Sure n (assigned_by right_form pos u a) (λ e. expr_nesting e ≤ n)
  assigned_sure pos u w None = sure_so (or_after_sure pos u w) (λ e v. bare disjunction n e v)
  assigned_sure pos u w (Some op) = sure_here (λ own. sure_skip (sure_apply right_sure (λ e v. max-le w v)))

  expr_after_sure : (pos : Pos) (u : Expr) → At unary n u → Sure n (expr_after pos u) (λ e. expr_nesting e ≤ n)
  expr_after_sure pos u w = sure_look (λ o. assigned_sure pos u w (assign_of (sign_of o)))

  pub expr_sure : Sure n expr_form (λ e. expr_nesting e ≤ n)
  expr_sure = sure_here (λ pos. sure_bind unary_sure (λ u w. expr_after_sure pos u w))

  pub from_sure : (pos : Pos) (e : Expr) → At primary n e → Sure n (expr_from pos e) (λ e. expr_nesting e ≤ n)
  from_sure pos e w = sure_bind (postfix_after_sure pos e w) (λ u v. expr_after_sure pos u (looser postfix unary n u (omega arith) v))

  pub maybe_sure : (s : Sign) → Sure n (maybe_expr s) (λ e. maybe_expr_nesting e ≤ n)
  maybe_sure s = sure_or (sure_empty (none n)) (sure_apply (sure_before expr_sure) (λ e w. w))
