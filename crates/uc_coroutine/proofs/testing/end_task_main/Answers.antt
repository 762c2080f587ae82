use Rattle.uc_coroutine.proofs.Ended.{main_left_as}
use Rattle.uc_coroutine.proofs.testing.end_task_main.Goals as goal

pub returns-clause-source : goal.returns-clause-source
returns-clause-source c = λ source code s h. main_left_as source code _ _ s h c.in_ok-end.end c.in_ok-end.ensures.how c.in_ok-end.ensures.now
