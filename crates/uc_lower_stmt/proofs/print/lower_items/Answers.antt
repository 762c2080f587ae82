use Rattle.std.proofs.Common.{arith}
use Rattle.uc_lower_stmt.proofs.Printing.{items_fit, item_counts, items_step}
use Rattle.uc_lower_stmt.proofs.print.lower_items.Goals as goal

pub lower_item-requires : goal.lower_item-requires
lower_item-requires c =
    let fit = items_fit c.args.items.now c.loop-item.item-index c.item-item.result c.loop-item-test.true c.item-item.is in
    let n = item_counts c.item-item.result in
    let r = c.loop-item.invariant.room in
    let q = c.loop-item.invariant.texts in
    record { room = omega (arith, fit, r); texts = omega (arith, fit, q, n) }

pub loop-item-preserved : goal.loop-item-preserved
loop-item-preserved c = items_step c.args.names.now c.args.items.now c.loop-item.item-index c.item-item.result c.args.line _ _ _ c.loop-item-test.true c.item-item.is c.loop-item.invariant c.in_ok-lower_item.ensures
