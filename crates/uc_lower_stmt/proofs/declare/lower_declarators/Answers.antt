use Rattle.std.proofs.Common.{arith}
use Rattle.uc_tree.specs.Cells.{declared_cells}
use Rattle.uc_lower_stmt.proofs.Declaring.{declarators_fit, declarators_step}
use Rattle.uc_lower_stmt.proofs.declare.lower_declarators.Goals as goal

pub lower_declarator-requires : goal.lower_declarator-requires
lower_declarator-requires c =
    let fit = declarators_fit (declared_cells c.args.names.now c.args.base.now) c.args.declarators.now c.loop-declarator.declarator-index c.declarator-item.result c.loop-declarator-test.true c.declarator-item.is in
    let a = fit.0 in
    let b = fit.1 in
    let r = c.loop-declarator.invariant.room in
    let q = c.loop-declarator.invariant.cells in
    record { room = omega (arith, a, r); cells = omega (arith, b, q) }

pub loop-declarator-preserved : goal.loop-declarator-preserved
loop-declarator-preserved c = declarators_step c.args.names.now c.args.base.now c.args.declarators.now c.loop-declarator.declarator-index c.declarator-item.result c.args.line _ _ _ c.loop-declarator-test.true c.declarator-item.is c.loop-declarator.invariant c.in_ok-lower_declarator.ensures
