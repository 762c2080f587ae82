use Rattle.std.proofs.Common.{◌*◌}
use Rattle.uc_tree.specs.declared.limits.TheConstants.{OPS_FOR_SIZE}
use Rattle.uc_tree.specs.ExpressionSizes.{expr_size}
use Rattle.uc_resolve.specs.Resolve.{meant, value_of}
use Rattle.uc_lower_expr.specs.Contexts.{context_in}
use Rattle.uc_lower_expr.specs.Meanings.{shape_as}
use Rattle.uc_lower_expr.proofs.Walks.{value_in}
use Rattle.uc_lower_stmt.proofs.Declaring.{arm_first}
use Rattle.uc_lower_stmt.proofs.declare.lower_first.Goals as goal

pub returns : goal.returns
returns c =
    arm_first (OPS_FOR_SIZE * expr_size c.args.value.now) c.args.line c.args.out.now.marks c.args.cell (shape_as c.args.scalar) (value_of (meant (context_in c.args.names.now c.args.out.now) c.args.value.now)) _ _ _ _ _ c.in_ok-put.ensures
    (value_in c.args.names.now _ c.args.line c.args.value.now c.args.out.now _ _ _ c.in_ok-put.ensures.rest c.in_ok-_told.ensures.code)
    c.in_ok-put_conversion.ensures c.in_ok-put-2.ensures
