use Rattle.std.proofs.Common.{arith}
use Rattle.uc_tree.specs.Cells.{declared_cells}
use Rattle.uc_lower_expr.specs.Meanings.{making_of}
use Rattle.uc_lower_stmt.proofs.Declaring.{declarators_fit}
use Rattle.uc_lower_stmt.proofs.Laying.{lays_routine}
use Rattle.uc_lower_stmt.proofs.Openings.{behind_next, objects_end, objects_start, objects_step}
use Rattle.uc_lower_stmt.proofs.block.lower_objects.Goals as goal

pub loop-declarator-init : goal.loop-declarator-init
loop-declarator-init c = objects_start c.args.names.now (making_of c.args.names.now c.args.made) c.args.base.now c.args.declarators.now c.args.line c.args.block c.args.out.now

pub lower_object-requires : goal.lower_object-requires
lower_object-requires c =
    let fit = declarators_fit (declared_cells c.args.names.now c.args.base.now) c.args.declarators.now c.loop-declarator.declarator-index c.declarator-item.result c.loop-declarator-test.true c.declarator-item.is in
    let a = fit.0 in
    let b = fit.1 in
    let r = c.loop-declarator.invariant.room in
    let q = c.loop-declarator.invariant.cells in
    record {
      class = c.requires.class;
      room = omega (arith, a, r);
      cells = omega (arith, b, q);
      behind = behind_next c.args.names.now c.args.made c.args.out.now.marks c.loop-declarator.out.marks c.requires.behind (lays_routine c.loop-declarator.invariant);
    }

pub loop-declarator-preserved : goal.loop-declarator-preserved
loop-declarator-preserved c = objects_step c.args.names.now (making_of c.args.names.now c.args.made) c.args.base.now c.args.declarators.now c.loop-declarator.declarator-index c.declarator-item.result c.args.line c.args.block _ _ _ c.loop-declarator-test.true c.declarator-item.is c.loop-declarator.invariant c.in_ok-lower_object.ensures

pub returns : goal.returns
returns c = objects_end c.args.names.now (making_of c.args.names.now c.args.made) c.args.base.now c.args.declarators.now c.loop-declarator.declarator-index c.args.line c.args.block _ _ c.loop-declarator-test.false c.loop-declarator.invariant
