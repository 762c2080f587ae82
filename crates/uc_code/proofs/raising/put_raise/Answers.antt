use Rattle.uc_code.specs.declared.op.Op.TheVariants as op
use Rattle.uc_code.proofs.Stable.{risk_stable}
use Rattle.uc_code.proofs.Putting.{puts_both}
use Rattle.uc_code.proofs.raising.put_raise.Goals as goal

pub returns : goal.returns
returns c = puts_both (risk_stable c.args.out.now.marks op.Raise c.args.line) c.in_ok-put_at_risk.ensures c.in_ok-put.ensures
