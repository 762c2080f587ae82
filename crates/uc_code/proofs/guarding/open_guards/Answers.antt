use Rattle.uc_code.proofs.GuardRows.{guard_none, guard_more}
use Rattle.uc_code.proofs.guarding.open_guards.Goals as goal

pub loop-init : goal.loop-init
loop-init c = guard_none c.args.out.now

pub loop-preserved : goal.loop-preserved
loop-preserved c = guard_more c.loop.counter c.args.out.now c.loop.out c.open.new.self c.loop.invariant c.in_ok-open.ensures.ok c.in_ok-open.ensures.kept
