use Rattle.std.proofs.Common.{arith}
use Rattle.uc_lower_stmt.proofs.Printing.{arm_item, item_counts}
use Rattle.uc_lower_stmt.proofs.print.lower_item.Goals as goal

pub put-requires : goal.put-requires
put-requires c = let r = c.in_ok-op.ensures.code.room in let n = item_counts c.args.item.now in omega (arith, r, n)

pub returns : goal.returns
returns c = arm_item c.args.names.now c.args.item.now _ c.args.line _ _ _ c.in_ok-op.ensures.op c.in_ok-op.ensures.code c.in_ok-put.ensures
