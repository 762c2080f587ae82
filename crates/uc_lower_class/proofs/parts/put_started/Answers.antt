use Rattle.std.proofs.Common.{◌+◌, ◌*◌, arith}
use Rattle.uc_tree.specs.declared.limits.TheConstants.{OPS_FOR_SIZE}
use Rattle.uc_tree.specs.ExpressionSizes.{expr_size}
use Rattle.uc_lower_expr.specs.Meanings.{shape_as}
use Rattle.uc_lower_expr.proofs.Adding.{adds_more}
use Rattle.uc_lower_class.proofs.Fielding.{kept_by, started_in}
use Rattle.uc_lower_class.proofs.parts.put_started.Goals as goal

pub returns : goal.returns
returns c =
    adds_more (omega arith) (started_in (OPS_FOR_SIZE * expr_size c.args.value.now + 1) c.args.field.cell c.args.names.now c.args.field.by_ref (shape_as c.args.field.told.scalar) c.args.value.now c.args.out.now _ _ _ _ c.in_ok-put.ensures c.in_ok-put_held.ensures (kept_by c.args.field.by_ref _ _ _ c.keep_op.ensures c.in_ok-put-2.ensures) c.in_ok-put-3.ensures)
