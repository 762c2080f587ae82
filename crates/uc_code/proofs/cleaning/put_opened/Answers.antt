use Rattle.std.proofs.Common.{pos, sym, subst, arith}
use Rattle.uc_code.specs.declared.op.Op.TheVariants as op
use Rattle.uc_code.specs.declared.rows.Resource.{Resource}
use Rattle.uc_code.specs.CodeShapes.{One}
use Rattle.uc_code.specs.Lowered.{OpenedAt}
use Rattle.uc_code.specs.Emits.{Puts}
use Rattle.uc_code.proofs.Stable.{one_stable, both_stable}
use Rattle.uc_code.proofs.Putting.{puts_more, puts_both}
use Rattle.uc_code.proofs.cleaning.put_opened.Goals as goal

pub returns-in_ok-put-in-Cluster-2 : goal.returns-in_ok-put-in-Cluster-2
returns-in_ok-put-in-Cluster-2 c =
    subst (λ (r : Resource). Puts 0 3 (λ code. OpenedAt code c.args.line r) c.args.out.now c.put-in-Cluster.new.out) (sym c.in-Cluster.is)
    (puts_more (omega arith) (puts_both (one_stable op.Cluster c.args.line) c.in_ok-put-in-Cluster.ensures c.in_ok-put-in-Cluster-2.ensures))

pub returns-in_ok-put-in-Processor-3 : goal.returns-in_ok-put-in-Processor-3
returns-in_ok-put-in-Processor-3 c =
    subst (λ (r : Resource). Puts 0 3 (λ code. OpenedAt code c.args.line r) c.args.out.now c.put-in-Processor-3.new.out) (sym c.in-Processor.is)
    (puts_both (both_stable (λ code. One code (op.Push (pos 0)) c.args.line) (one_stable (op.Push (pos 0)) c.args.line) (λ code. One code op.Processor c.args.line) (one_stable op.Processor c.args.line)) (puts_both (one_stable (op.Push (pos 0)) c.args.line) c.in_ok-put-in-Processor.ensures c.in_ok-put-in-Processor-2.ensures) c.in_ok-put-in-Processor-3.ensures)
