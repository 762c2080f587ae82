use Rattle.std.proofs.Common.{◌∙◌}
use Rattle.uc_judge.proofs.Housing.{one_more}
use Rattle.uc_judge.proofs.processors.opening.Goals as goal

pub loop-number-preserved : goal.loop-number-preserved
loop-number-preserved c = c.in_ok-push.ensures.items ∙ one_more c.loop-number.rows.items c.loop-number.number c.loop-number.invariant
