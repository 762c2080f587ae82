use Rattle.std.proofs.Common.{◌∙◌}
use Rattle.uc_judge.proofs.accepts.Accepts.open_at.Goals as goal

pub returns : goal.returns
returns c j h = c.value_at.ensures ∙ h.opened c.args.object
