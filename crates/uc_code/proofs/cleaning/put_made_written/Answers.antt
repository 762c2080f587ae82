use Rattle.uc_code.proofs.Putting.{puts_made_written}
use Rattle.uc_code.proofs.cleaning.put_made_written.Goals as goal

pub returns : goal.returns
returns c = puts_made_written c.args.line c.args.class c.args.routine _ _ _ _ _ c.in_ok-put.ensures c.in_ok-put-2.ensures c.in_ok-put-3.ensures c.in_ok-put_at_risk.ensures
