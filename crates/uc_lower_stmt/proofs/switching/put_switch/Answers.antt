use Rattle.uc_lower_stmt.proofs.Switches.{switched}
use Rattle.uc_lower_stmt.proofs.switching.put_switch.Goals as goal

pub returns : goal.returns
returns c = switched c.args.line c.args.op c.args.out.now _ _ _ c.in_ok-put.ensures c.in_ok-put_at_risk.ensures c.in_ok-put_poll.ensures
