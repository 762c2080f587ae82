use Rattle.uc_coroutine.proofs.Switched.{resumes_as}
use Rattle.uc_coroutine.proofs.switching.resume.Goals as goal

pub returns-clause-source : goal.returns-clause-source
returns-clause-source c = λ source code s h. resumes_as source code c.args.work.now c.wake_own-fault.new.work s h c.wake_own-fault.result c.wake_own-fault.ensures.fault c.wake_own-fault.ensures.state
