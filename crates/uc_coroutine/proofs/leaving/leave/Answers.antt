use Rattle.uc_coroutine.proofs.Lefts.{leaves_as}
use Rattle.uc_coroutine.proofs.leaving.leave.Goals as goal

pub returns-clause-source : goal.returns-clause-source
returns-clause-source c = λ source code s h. leaves_as source code _ _ s h c.in_ok-left.left c.in_ok-left.ensures.how c.in_ok-left.ensures.ok
