use Rattle.uc_lower_stmt.proofs.EnablingLemmas.{switched_off, switched_on}
use Rattle.uc_lower_stmt.proofs.enabling.put_enabling.Goals as goal

pub returns-in_ok-put_poll-in-Enable : goal.returns-in_ok-put_poll-in-Enable
returns-in_ok-put_poll-in-Enable c = switched_on c.args.how c.args.events c.args.cell c.args.line c.args.out.now _ _ c.in-Enable.is c.in_ok-put-in-Enable.ensures c.in_ok-put_poll-in-Enable.ensures

pub returns-in_ok-put-in-Disable : goal.returns-in_ok-put-in-Disable
returns-in_ok-put-in-Disable c = switched_off c.args.how c.args.events c.args.cell c.args.line c.args.out.now _ c.in-Disable.is c.in_ok-put-in-Disable.ensures
