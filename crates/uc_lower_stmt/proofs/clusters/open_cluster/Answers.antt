use Rattle.std.proofs.Common.{subst}
use Rattle.uc_code.specs.declared.op.Op.{Op}
use Rattle.uc_lower_expr.specs.DraftGrowth.{Adds, OpCode}
use Rattle.uc_lower_stmt.proofs.Clustered.{arm_cluster}
use Rattle.uc_lower_stmt.proofs.clusters.open_cluster.Goals as goal

pub returns-clause-code : goal.returns-clause-code
returns-clause-code c =
    let spot = subst (λ (o : Op). Adds 1 (OpCode c.args.line o) c.args.out.now c.put.new.out) c.spot_op.ensures c.in_ok-put.ensures in
    arm_cluster c.args.line c.args.spot c.args.out.now _ _ _ spot c.in_ok-put-2.ensures c.in_ok-put-3.ensures
