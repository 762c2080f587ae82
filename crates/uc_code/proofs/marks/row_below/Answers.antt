use Rattle.std.proofs.Common.{◌∙◌, sym, arith}
use Rattle.uc_code.proofs.Seeing.{row_found, row_passed}
use Rattle.uc_code.proofs.marks.row_below.Goals as goal

pub returns-in-Row : goal.returns-in-Row
returns-in-Row c = sym (row_found c.args.marks.now c.loop-i.i _ c.loop-i-test.true c.loop-i.invariant.0 c.args.below c.loop-i.bound c.in-Row.row c.loop-i.invariant.1 (sym c.see.ensures ∙ c.in-Row.is))

pub loop-i-preserved : goal.loop-i-preserved
loop-i-preserved c =
    let l = c.loop-i.invariant.0 in
    (omega arith, row_passed c.args.marks.now c.loop-i.i _ c.loop-i-test.true l c.args.below c.loop-i.bound c.in-Bound.next c.loop-i.invariant.1 (sym c.see.ensures ∙ c.in-Bound.is))
