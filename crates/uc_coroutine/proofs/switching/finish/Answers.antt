use Rattle.uc_coroutine.proofs.Switched.{ends_as}
use Rattle.uc_coroutine.proofs.switching.finish.Goals as goal

pub returns-clause-source : goal.returns-clause-source
returns-clause-source c = λ source code s h. ends_as source code c.args.work.now c.end-fault.new.work s h c.end-fault.result c.end-fault.ensures.fault c.end-fault.ensures.state
