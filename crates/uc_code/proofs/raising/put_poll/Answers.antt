use Rattle.std.proofs.Common.{ap, ◌+◌}
use Rattle.uc_code.proofs.Putting.{puts_poll}
use Rattle.uc_code.proofs.raising.put_poll.Goals as goal

pub returns : goal.returns
returns c = puts_poll c.args.line _ _ _ _ _ _ _ c.here-begin.ensures.count (ap (λ n. n + 4) c.here-begin.ensures.count) c.in_ok-put.ensures c.in_ok-put_at_risk.ensures c.in_ok-put-2.ensures c.in_ok-put-3.ensures
