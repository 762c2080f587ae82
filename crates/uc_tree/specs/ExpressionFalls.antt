-- A child is smaller than the expression that holds it.
use Rattle.std.specs.Prelude.{◌+◌, ◌≤◌, List, [], ◌∷◌}
use Rattle.std.proofs.Common.{arith}
use denote.Param.Weighed.{most}
use Rattle.uc_tree.specs.declared.pos.Pos.{Pos}
use Rattle.uc_tree.specs.declared.expr.ExprForm.{ExprForm}
use Rattle.uc_tree.specs.declared.expr.ExprForm.TheVariants as form
use Rattle.uc_tree.specs.declared.expr.PartForm.{PartForm}
use Rattle.uc_tree.specs.declared.expr.PartForm.TheVariants as part
use Rattle.uc_tree.specs.declared.expr.Expr.TheDeep.{deep-ExprForm, deep-PartForm}
use Rattle.uc_tree.specs.Expressions.{Expr, Part, Link, exprs_of, parts_of, links_of}
use Rattle.uc_tree.specs.ExpressionSizes.{expr_size, exprs_size, part_size, parts_size, link_size, links_size}
use Rattle.uc_tree.specs.ExpressionViews.{expr_at, part_at}

pub most_exprs : (es : List Expr) → most (λ e. expr_size e + 1) es ≤ exprs_size (exprs_of es) + 1
most_exprs [] = omega arith
most_exprs (e ∷ es) = omega (arith, most_exprs es)

pub most_parts : (ps : List Part) → most (λ p. part_size p + 1) ps ≤ parts_size (parts_of ps) + 1
most_parts [] = omega arith
most_parts (p ∷ ps) = omega (arith, most_parts ps)

pub most_links : (ls : List Link) → most (λ l. link_size l + 1) ls ≤ links_size (links_of ls) + 1
most_links [] = omega arith
most_links (l ∷ ls) = omega (arith, most_links ls)

pub expr_falls : (p : Pos) (f : ExprForm) → deep-ExprForm f ≤ expr_size (expr_at p f)
expr_falls p (form.Number n) = omega arith
expr_falls p (form.Character b) = omega arith
expr_falls p (form.Truth b) = omega arith
expr_falls p (form.Name n) = omega arith
expr_falls p form.Cin = omega arith
expr_falls p (form.Postfix root parts) = omega (arith, most_parts parts.items)
expr_falls p (form.Unary op operand) = omega arith
expr_falls p (form.Chain first rest) = omega (arith, most_links rest.items)
expr_falls p (form.Assign sign op place value) = omega arith

pub part_falls : (p : Pos) (f : PartForm) → deep-PartForm f ≤ part_size (part_at p f)
part_falls p (part.Field n) = omega arith
part_falls p (part.Index index) = omega arith
part_falls p (part.Call args) = omega (arith, most_exprs args.items)
part_falls p (part.Step op) = omega arith
