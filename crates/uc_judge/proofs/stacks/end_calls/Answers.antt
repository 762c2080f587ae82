use Rattle.std.proofs.Common.{arith}
use Rattle.uc_acts.specs.Doors.{left_by_task}
use Rattle.uc_judge.specs.ClauseStacks.{as_on_stack}
use Rattle.uc_judge.proofs.Stacking.{over_more, rest_more}
use Rattle.uc_judge.proofs.stacks.end_calls.Goals as goal

pub loop-row-preserved : goal.loop-row-preserved
loop-row-preserved c =
    let rows = c.loop-row.row-items in
    let old = c.args.rows.now.items in
    let v = c.without_call.result in
    let test = c.loop-row-test.true in
    let long = c.loop-row.auto.row-items in
    record {
      over = λ sites. over_more (as_on_stack sites) (left_by_task c.args.task c.args.failed) rows old c.loop-row.row-index v _ (omega (arith, test, long)) (c.without_call.ensures sites) (c.loop-row.invariant.over sites) c.loop-row.invariant.others;
      others = rest_more rows old c.loop-row.row-index v c.loop-row.invariant.others;
    }
