use Rattle.std.proofs.Common.{◌∙◌, sym, arith}
use Rattle.uc_code.proofs.Seeing.{row_counted, count_passed}
use Rattle.uc_code.proofs.marks.rows_below.Goals as goal

pub loop-i-preserved-in-Row : goal.loop-i-preserved-in-Row
loop-i-preserved-in-Row c =
    let l = c.loop-i.invariant.0 in
    let m = c.loop-i.invariant.1 in
    let t = c.loop-i-test.true in
    (omega arith, omega arith, row_counted c.args.marks.now c.loop-i.i _ c.loop-i-test.true l c.args.below c.loop-i.bound c.loop-i.count c.in-Row.field-0 c.loop-i.invariant.2 (sym c.see.ensures ∙ c.in-Row.is))

pub loop-i-preserved : goal.loop-i-preserved
loop-i-preserved c =
    let l = c.loop-i.invariant.0 in
    let m = c.loop-i.invariant.1 in
    let t = c.loop-i-test.true in
    (omega arith, omega arith, count_passed c.args.marks.now c.loop-i.i _ c.loop-i-test.true l c.args.below c.loop-i.bound c.loop-i.count c.in-Bound.next c.loop-i.invariant.2 (sym c.see.ensures ∙ c.in-Bound.is))
