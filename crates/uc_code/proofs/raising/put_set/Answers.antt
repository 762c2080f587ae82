use Rattle.uc_code.specs.declared.op.Op.TheVariants as op
use Rattle.uc_code.proofs.Stable.{one_stable}
use Rattle.uc_code.proofs.Putting.{puts_both}
use Rattle.uc_code.proofs.raising.put_set.Goals as goal

pub returns : goal.returns
returns c = puts_both (one_stable (op.Set c.args.cell) c.args.line) c.in_ok-put.ensures c.in_ok-put-2.ensures
