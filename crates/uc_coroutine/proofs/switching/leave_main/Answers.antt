use Rattle.uc_coroutine.proofs.Switched.{leaves_main_as}
use Rattle.uc_coroutine.proofs.switching.leave_main.Goals as goal

pub returns-clause-source : goal.returns-clause-source
returns-clause-source c = λ source code s h. leaves_main_as source code c.args.work.now c.leave_by_reason-fault.new.work s h c.leave_by_reason-fault.result c.leave_by_reason-fault.ensures.fault c.leave_by_reason-fault.ensures.state
