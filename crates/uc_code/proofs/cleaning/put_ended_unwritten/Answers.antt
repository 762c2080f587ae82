use Rattle.uc_code.proofs.Putting.{puts_ended_unwritten}
use Rattle.uc_code.proofs.cleaning.put_ended_unwritten.Goals as goal

pub returns : goal.returns
returns c = puts_ended_unwritten c.args.line c.args.routine _ _ _ c.requires.behind c.in_ok-put.ensures c.in_ok-put_at_risk.ensures
