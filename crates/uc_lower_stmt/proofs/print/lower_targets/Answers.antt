use Rattle.std.proofs.Common.{arith}
use Rattle.uc_lower_stmt.proofs.Printing.{exprs_fit, targets_step}
use Rattle.uc_lower_stmt.proofs.print.lower_targets.Goals as goal

pub lower_target-requires : goal.lower_target-requires
lower_target-requires c =
    let fit = exprs_fit c.args.places.now c.loop-place.place-index c.place-item.result c.loop-place-test.true c.place-item.is in
    let r = c.loop-place.invariant.room in
    omega (arith, fit, r)

pub loop-place-preserved : goal.loop-place-preserved
loop-place-preserved c = targets_step c.args.names.now c.args.places.now c.loop-place.place-index c.place-item.result c.args.line _ _ _ c.loop-place-test.true c.place-item.is c.loop-place.invariant c.in_ok-lower_target.ensures
