use Rattle.uc_coroutine.proofs.Switched.{suspends_as}
use Rattle.uc_coroutine.proofs.switching.suspend.Goals as goal

pub returns-clause-source : goal.returns-clause-source
returns-clause-source c = λ source code s h. suspends_as source code c.args.work.now c.yield_to_resumer-fault.new.work s h c.yield_to_resumer-fault.result c.yield_to_resumer-fault.ensures.fault c.yield_to_resumer-fault.ensures.state
