use Rattle.std.proofs.Common.{sym, ◌∙◌}
use Rattle.uc_judge.proofs.Rows.{found, passed}
use Rattle.uc_judge.proofs.schedule.first_of_number.Goals as goal

pub returns-then-row-number : goal.returns-then-row-number
returns-then-row-number c =
    sym (c.loop-row.invariant ∙ found c.args.number c.args.rows.now c.loop-row.row-index c.loop-row-test.true c.if-row-number.true)

pub loop-row-preserved : goal.loop-row-preserved
loop-row-preserved c =
    c.loop-row.invariant ∙ passed c.args.number c.args.rows.now c.loop-row.row-index c.loop-row-test.true c.if-row-number.false
