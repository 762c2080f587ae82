use Rattle.std.proofs.Common.{◌∙◌}
use Rattle.uc_judge.proofs.tasks.Tasks.left.Goals as goal

pub returns : goal.returns
returns c opts j h = c.value_or.ensures ∙ h.left c.args.task
