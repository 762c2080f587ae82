use Rattle.std.proofs.Common.{arith}
use Rattle.uc_lower_stmt.specs.LowersStatement.{scope_of}
use Rattle.uc_lower_stmt.proofs.Printing.{items_fit, item_counts, pieces_step, ops_step}
use Rattle.uc_lower_stmt.proofs.print.lower_pieces.Goals as goal

pub lower_piece-requires : goal.lower_piece-requires
lower_piece-requires c =
    let fit = items_fit c.args.items.now c.loop-item.item-index c.item-item.result c.loop-item-test.true c.item-item.is in
    let n = item_counts c.item-item.result in
    let r = c.loop-item.invariant.code.room in
    let q = c.loop-item.invariant.code.texts in
    record { room = omega (arith, fit, r); texts = omega (arith, fit, q, n) }

pub loop-item-preserved : goal.loop-item-preserved
loop-item-preserved c = record {
  code = pieces_step c.args.names.now c.args.items.now c.loop-item.item-index c.item-item.result c.args.line _ _ _ c.loop-item-test.true c.item-item.is c.loop-item.invariant.code c.in_ok-op.ensures.code;
  ops = ops_step c.args.names.now c.args.items.now c.loop-item.item-index c.item-item.result (scope_of c.args.out.now) (scope_of c.loop-item.out) _ _ _ c.loop-item-test.true c.item-item.is c.loop-item.invariant.code.scope c.loop-item.invariant.ops c.in_ok-op.ensures.op c.in_ok-push.ensures.items;
}
