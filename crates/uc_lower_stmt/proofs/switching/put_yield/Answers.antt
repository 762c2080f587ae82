use Rattle.uc_lower_stmt.proofs.Switches.{yielded}
use Rattle.uc_lower_stmt.proofs.switching.put_yield.Goals as goal

pub returns : goal.returns
returns c = yielded c.args.line c.args.out.now _ _ c.in_ok-put.ensures c.in_ok-put_poll.ensures
