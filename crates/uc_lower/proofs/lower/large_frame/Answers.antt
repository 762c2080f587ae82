use Rattle.std.proofs.Common.{ap, sym, ◌∙◌, arith}
use Rattle.uc_tree.specs.Capped.{capped}
use Rattle.uc_tree.specs.Cells.{routine_cells}
use Rattle.uc_tree.specs.Numbering.{routines_of}
use Rattle.uc_numbering.specs.declared.routines.Defined.{Defined as Found}
use Rattle.uc_numbering.specs.Routines.{defined_at}
use Rattle.uc_lower.proofs.Ending.{found_at, as_many}
use Rattle.uc_lower.proofs.Refused.{none_before, before_step, all_fit, first_large}
use Rattle.uc_lower.proofs.lower.large_frame.Goals as goal

pub loop-number-init : goal.loop-number-init
loop-number-init c = none_before c.args.sizes.now

pub loop-number-preserved : goal.loop-number-preserved
loop-number-preserved c =
    let i = c.loop-number.number in
    let x = c.index-defined-number.result in
    let at = found_at c.args.defined.now (routines_of c.args.sizes.now) i x c.requires.defined (let n = c.requires.count in let l = c.loop-number-test.true in omega (arith, n, l)) c.index-defined-number.is in
    before_step c.args.sizes.now i c.cells_of_routine-cells.result (defined_at x) at (c.cells_of_routine-cells.ensures ∙ ap (λ (d : Found). capped (routine_cells c.args.sizes.now d.routine.now)) (sym c.index-defined-number.is)) (let f = c.if-cells-gt-FRAME_CELLS.false in omega (arith, f)) c.loop-number.invariant

pub returns-then-cells-gt-FRAME_CELLS : goal.returns-then-cells-gt-FRAME_CELLS
returns-then-cells-gt-FRAME_CELLS c =
    let i = c.loop-number.number in
    let x = c.index-defined-number.result in
    let at = found_at c.args.defined.now (routines_of c.args.sizes.now) i x c.requires.defined (let n = c.requires.count in let l = c.loop-number-test.true in omega (arith, n, l)) c.index-defined-number.is in
    first_large c.args.sizes.now i c.cells_of_routine-cells.result (defined_at x) at (c.cells_of_routine-cells.ensures ∙ ap (λ (d : Found). capped (routine_cells c.args.sizes.now d.routine.now)) (sym c.index-defined-number.is)) (let f = c.if-cells-gt-FRAME_CELLS.true in omega (arith, f)) c.loop-number.invariant

pub returns : goal.returns
returns c =
    let n = as_many c.args.defined.now (routines_of c.args.sizes.now) c.requires.defined in
    let k = c.requires.count in
    let l = c.loop-number-test.false in
    all_fit c.args.sizes.now c.loop-number.number (omega (arith, n, k, l)) c.loop-number.invariant
