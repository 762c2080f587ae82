use Rattle.uc_code.proofs.Putting.{puts_written}
use Rattle.uc_code.proofs.cleaning.put_written.Goals as goal

pub returns : goal.returns
returns c = puts_written c.args.line c.args.routine _ _ _ c.in_ok-put.ensures c.in_ok-put_at_risk.ensures
