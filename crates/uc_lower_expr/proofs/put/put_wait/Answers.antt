use Rattle.std.proofs.Common.{◌+◌, ap}
use Rattle.uc_code.specs.declared.op.Op.TheVariants as op
use Rattle.uc_code.proofs.Stable.{one_stable}
use Rattle.uc_lower_expr.proofs.Adding.{adds_both, adds_poll, poll_in}
use Rattle.uc_lower_expr.proofs.put.put_wait.Goals as goal

pub returns : goal.returns
returns c =
    adds_both (one_stable op.Wait c.args.line) c.in_ok-put.ensures (
    poll_in c.args.line c.args.out.now _ _ c.in_ok-put.ensures.rest (
    adds_poll c.args.line (c.here-begin.result + 4) c.here-begin.result _ _ _ _ _ c.here-begin.ensures.count (ap (λ n. n + 4) c.here-begin.ensures.count) c.in_ok-put-2.ensures c.in_ok-put_at_risk.ensures c.in_ok-put-3.ensures c.in_ok-put-4.ensures))
