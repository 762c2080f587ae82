use Rattle.uc_code.specs.declared.op.Op.TheVariants as op
use Rattle.uc_code.proofs.Stable.{one_stable}
use Rattle.uc_lower_expr.proofs.Adding.{adds_both, rest_behind, risk_in}
use Rattle.uc_lower_expr.proofs.expr.put_mutex_call.Goals as goal

pub returns : goal.returns
returns c =
    adds_both (one_stable op.Tick c.args.line) c.in_ok-put.ensures (adds_both (one_stable (op.Enter c.args.member c.args.routine) c.args.line) c.in_ok-put-2.ensures (
    risk_in c.args.line (op.CallOn c.args.routine) c.args.out.now _ _ (rest_behind c.args.out.now c.in_ok-put.ensures.rest c.in_ok-put-2.ensures) c.in_ok-put_at_risk.ensures))
