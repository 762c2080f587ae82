use Rattle.std.proofs.Common.{subst}
use Rattle.uc_code.specs.declared.op.Op.{Op}
use Rattle.uc_code.specs.declared.op.Op.TheVariants as op
use Rattle.uc_code.specs.CodeShapes.{One}
use Rattle.uc_code.specs.Emits.{Puts}
use Rattle.uc_code.specs.Lowered.{spot_op}
use Rattle.uc_code.proofs.Stable.{one_stable}
use Rattle.uc_code.proofs.Putting.{puts_both}
use Rattle.uc_code.proofs.cleaning.put_element.Goals as goal

pub returns : goal.returns
returns c =
    let at = subst (λ (o : Op). Puts 0 1 (λ code. One code o c.args.line) c.args.out.now c.put.new.out) c.spot_op.ensures c.in_ok-put.ensures in
    puts_both (one_stable (spot_op c.args.spot) c.args.line) at (puts_both (one_stable op.Counted c.args.line) c.in_ok-put-2.ensures c.in_ok-put-3.ensures)
