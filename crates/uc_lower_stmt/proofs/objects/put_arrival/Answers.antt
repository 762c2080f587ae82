use Rattle.std.proofs.Common.{◌+◌, ap}
use Rattle.uc_lower_stmt.proofs.Joined.{puts_adds}
use Rattle.uc_lower_stmt.proofs.Ending.{call_arrives}
use Rattle.uc_lower_stmt.proofs.objects.put_arrival.Goals as goal

pub returns : goal.returns
returns c =
    call_arrives c.args.line _ c.requires.call.routine c.args.out.now _ _ _ _ _ c.requires.call.is (ap (λ k. k + 7) c.here-arrived.ensures.count) (puts_adds c.in_ok-put.ensures) c.in_ok-put_clean.ensures (puts_adds c.in_ok-put_at_risk.ensures) c.in_ok-put_clean-2.ensures c.in_ok-put_exit.ensures
