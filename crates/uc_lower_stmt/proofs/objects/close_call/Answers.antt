use Rattle.std.proofs.Common.{arith}
use Rattle.uc_lower_stmt.proofs.Joined.{puts_adds}
use Rattle.uc_lower_stmt.proofs.Ending.{call_closed}
use Rattle.uc_lower_stmt.proofs.objects.close_call.Goals as goal

pub returns : goal.returns
returns c =
    call_closed c.args.line _ c.requires.call.routine c.args.out.now _ _ _ _ c.requires.scope c.requires.call.is c.close.ensures.closed c.close.ensures.kept c.close.ensures.handler c.in_ok-put_clean.ensures (puts_adds c.in_ok-put.ensures) c.in_ok-put_arrival.ensures
    (omega (arith, c.here.ensures.count))
