use Rattle.uc_code.proofs.Putting.{puts_ended_written}
use Rattle.uc_code.proofs.cleaning.put_ended_written.Goals as goal

pub returns : goal.returns
returns c = puts_ended_written c.args.line c.args.routine _ _ _ _ c.in_ok-put.ensures c.in_ok-put-2.ensures c.in_ok-put_at_risk.ensures
