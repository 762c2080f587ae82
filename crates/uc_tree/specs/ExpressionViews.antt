-- The tree of an expression as the code holds it, whose parts are trees.
use Rattle.uc_tree.specs.declared.pos.Pos.{Pos}
use Rattle.uc_tree.specs.declared.expr.ExprForm.{ExprForm}
use Rattle.uc_tree.specs.declared.expr.ExprForm.TheVariants as form
use Rattle.uc_tree.specs.declared.expr.PartForm.{PartForm}
use Rattle.uc_tree.specs.declared.expr.PartForm.TheVariants as part
use Rattle.uc_tree.specs.Expressions.{Expr, Number, Character, Truth, Name, Cin, Postfix, Unary, Chain, Assign, Part, Field, Index, Call, Step, exprs_of, parts_of, links_of}

abbrev pub expr_at : Pos → ExprForm → Expr
expr_at p (form.Number n) = Number p n
expr_at p (form.Character b) = Character p b
expr_at p (form.Truth b) = Truth p b
expr_at p (form.Name n) = Name p n
expr_at p form.Cin = Cin p
expr_at p (form.Postfix root parts) = Postfix p root.value (parts_of parts.items)
expr_at p (form.Unary op operand) = Unary p op operand.value
expr_at p (form.Chain first rest) = Chain p first.value (links_of rest.items)
expr_at p (form.Assign sign op place value) = Assign p sign op place.value value.value

abbrev pub part_at : Pos → PartForm → Part
part_at p (part.Field n) = Field p n
part_at p (part.Index index) = Index p index
part_at p (part.Call args) = Call p (exprs_of args.items)
part_at p (part.Step op) = Step p op
