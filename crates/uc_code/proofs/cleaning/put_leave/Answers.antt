use Rattle.std.proofs.Common.{ap, ◌+◌}
use Rattle.uc_code.proofs.Putting.{puts_leave}
use Rattle.uc_code.proofs.cleaning.put_leave.Goals as goal

pub returns : goal.returns
returns c = puts_leave c.args.line _ _ _ _ (ap (λ n. n + 5) c.here-behind.ensures.count) c.in_ok-put.ensures c.in_ok-put_poll.ensures
