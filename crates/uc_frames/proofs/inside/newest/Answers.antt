use Rattle.std.proofs.Common.{arith}
use Rattle.uc_frames.proofs.Entered.{newest_here, none_more, none_in}
use Rattle.uc_frames.proofs.inside.newest.Goals as goal

pub returns-then-rows-at : goal.returns-then-rows-at
returns-then-rows-at c =
    newest_here c.args.object c.args.rows.now c.loop-at.at c.loop-at-test.true c.loop-at.invariant _ c.if-rows-at.true

pub loop-at-preserved : goal.loop-at-preserved
loop-at-preserved c =
    none_more c.args.object c.args.rows.now c.loop-at.at c.loop-at-test.true c.loop-at.invariant _ c.if-rows-at.false

pub returns : goal.returns
returns c = none_in c.args.object c.args.rows.now (λ j l. c.loop-at.invariant.1 j (omega (arith, c.loop-at-test.false)))
