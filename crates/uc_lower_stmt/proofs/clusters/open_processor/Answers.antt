use Rattle.std.proofs.Common.{◌+◌, ◌*◌, subst}
use Rattle.uc_tree.specs.declared.limits.TheConstants.{OPS_FOR_SIZE}
use Rattle.uc_tree.specs.Expressions.{exprs_of}
use Rattle.uc_tree.specs.ExpressionSizes.{exprs_size}
use Rattle.uc_resolve.specs.Resolve.{args_meant, cluster_in}
use Rattle.uc_code.specs.declared.op.Op.{Op}
use Rattle.uc_code.specs.Drafts.{Draft}
use Rattle.uc_lower_expr.specs.DraftGrowth.{Adds, ExprCode, OpCode}
use Rattle.uc_lower_expr.specs.Contexts.{context_in}
use Rattle.uc_lower_stmt.proofs.Clustered.{arm_processor}
use Rattle.uc_lower_stmt.proofs.clusters.open_processor.Goals as goal

pub returns-clause-code : goal.returns-clause-code
returns-clause-code c =
    let p = c.args.names.now in
    let d0 = c.args.out.now in
    let d1 = c.put.new.out in
    let es = exprs_of c.args.args.now in
    let n = OPS_FOR_SIZE * exprs_size (exprs_of c.args.args.now) in
    let spot = subst (λ (o : Op). Adds 1 (OpCode c.args.line o) d0 d1) c.spot_op.ensures c.in_ok-put.ensures in
    let cluster = subst (λ (d : Draft). Adds (n + 1) (ExprCode c.args.line d.marks (cluster_in (args_meant (context_in p d) es))) d1 c.lower_cluster.new.out) c.in_ok-put.ensures.rest c.in_ok-lower_cluster.ensures in
    arm_processor n c.args.line (cluster_in (args_meant (context_in p d0) es)) c.args.spot d0 d1 _ _ _ spot cluster c.in_ok-put-2.ensures c.in_ok-put-3.ensures
