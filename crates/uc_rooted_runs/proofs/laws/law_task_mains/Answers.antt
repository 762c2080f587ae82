use Rattle.uc_rooted_runs.proofs.TaskMainRuns.{law_task_mains}
use Rattle.uc_rooted_runs.proofs.laws.law_task_mains.Goals as goal

pub returns : goal.returns
returns c = law_task_mains
