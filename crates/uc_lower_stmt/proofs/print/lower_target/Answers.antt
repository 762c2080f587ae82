use Rattle.std.proofs.Common.{◌*◌, ◌-◌, arith}
use Rattle.uc_tree.specs.declared.limits.TheConstants.{OPS_FOR_SIZE}
use Rattle.uc_tree.specs.ExpressionSizes.{expr_size}
use Rattle.uc_resolve.specs.Resolve.{meant}
use Rattle.uc_lower_expr.specs.Contexts.{context_in}
use Rattle.uc_lower_expr.proofs.Walks.{some_size}
use Rattle.uc_lower_stmt.proofs.Printing.{arm_target}
use Rattle.uc_lower_stmt.proofs.print.lower_target.Goals as goal

pub put-requires : goal.put-requires
put-requires c = let r = c.in_ok-told.ensures.code.room in let s = some_size c.args.place.now in omega (arith, r, s)

pub put-requires-2 : goal.put-requires-2
put-requires-2 c = let r = c.in_ok-told.ensures.code.room in let q = c.in_ok-put.ensures.room in let s = some_size c.args.place.now in omega (arith, r, q, s)

pub returns : goal.returns
returns c = arm_target c.args.names.now (OPS_FOR_SIZE * expr_size c.args.place.now - 2) c.args.line c.args.out.now.marks _ (meant (context_in c.args.names.now c.args.out.now) c.args.place.now) _ _ _ _ _ _ (let s = some_size c.args.place.now in omega arith) c.form.ensures c.in_ok-told.ensures.tells c.in_ok-told.ensures.code c.in_ok-put.ensures c.in_ok-put-2.ensures
