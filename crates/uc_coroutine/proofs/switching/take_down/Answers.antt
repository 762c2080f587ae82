use Rattle.std.proofs.Common.{None}
use Rattle.uc_coroutine.proofs.Switched.{takes_down_as}
use Rattle.uc_coroutine.proofs.switching.take_down.Goals as goal

pub returns-clause-source : goal.returns-clause-source
returns-clause-source c = λ source code s h. takes_down_as source code c.args.work.now c.unwind_own.new.work s h None c.unwind_own.ensures.fault c.unwind_own.ensures.state
