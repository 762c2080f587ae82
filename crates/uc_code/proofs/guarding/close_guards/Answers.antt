use Rattle.std.proofs.Common.{arith}
use Rattle.uc_code.proofs.GuardRows.{closing_none, closing_more, closing_all, still_some}
use Rattle.uc_code.proofs.guarding.close_guards.Goals as goal

pub loop-init : goal.loop-init
loop-init c = (c.requires, λ first ms e. closing_none first c.args.count ms c.args.out.now e)

pub loop-preserved : goal.loop-preserved
loop-preserved c = (still_some c.loop.out c.close.new.self c.close.ensures.closed c.loop.invariant.0, λ first ms e. closing_more first c.args.count c.loop.counter ms c.args.out.now c.loop.out c.close.new.self c.loop-test.true (c.loop.invariant.1 first ms e) c.close.ensures.closed c.close.ensures.kept c.close.ensures.bare)

pub returns : goal.returns
returns c = λ first ms e. closing_all first c.args.count c.loop.counter ms c.args.out.now c.loop.out (omega arith) (c.loop.invariant.1 first ms e)
