use Rattle.uc_lower_stmt.proofs.AcceptingLemmas.{puts_accept}
use Rattle.uc_lower_stmt.proofs.accept.put_accept.Goals as goal

pub returns : goal.returns
returns c = puts_accept c.args.site c.args.guards c.args.line c.here-ask.result c.args.out.now _ _ _ _ c.here-ask.ensures.count c.in_ok-put.ensures c.in_ok-put-2.ensures c.in_ok-put_raise.ensures c.in_ok-put_poll.ensures
