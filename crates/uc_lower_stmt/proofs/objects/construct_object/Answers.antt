use Rattle.std.proofs.Common.{◌*◌, List, subst}
use Rattle.uc_tree.specs.declared.kinds.Param.{Param}
use Rattle.uc_tree.specs.declared.limits.TheConstants.{OPS_FOR_SIZE}
use Rattle.uc_tree.specs.Expressions.{exprs_of}
use Rattle.uc_tree.specs.ExpressionSizes.{exprs_size}
use Rattle.uc_resolve.specs.Resolve.{args_by, args_meant}
use Rattle.uc_code.specs.declared.op.Op.{Op}
use Rattle.uc_code.specs.Drafts.{Draft}
use Rattle.uc_lower_expr.specs.DraftGrowth.{Adds, ArgumentsCode, OpCode}
use Rattle.uc_lower_expr.specs.Contexts.{context_in}
use Rattle.uc_lower_expr.specs.Meanings.{is_mutex_at}
use Rattle.uc_lower_stmt.proofs.Building.{arm_unwritten, arm_written}
use Rattle.uc_lower_stmt.proofs.objects.construct_object.Goals as goal

pub returns-in_ok-put_at_risk-clause-code : goal.returns-in_ok-put_at_risk-clause-code
returns-in_ok-put_at_risk-clause-code c =
    let p = c.args.names.now in
    let d0 = c.args.out.now in
    let d1 = c.put.new.out in
    let es = exprs_of c.args.args.now in
    let n = OPS_FOR_SIZE * exprs_size (exprs_of c.args.args.now) in
    let spot = subst (λ (o : Op). Adds 1 (OpCode c.args.line o) d0 d1) c.spot_op.ensures c.in_ok-put.ensures in
    let args = subst (λ (xs : List Param). Adds n (ArgumentsCode c.args.line d1.marks (args_by xs (args_meant (context_in p d0) es))) d1 c.lower_args.new.out) c.params.ensures (
    subst (λ (d : Draft). Adds n (ArgumentsCode c.args.line d1.marks (args_by c.params.result.now (args_meant (context_in p d) es))) d1 c.lower_args.new.out) c.in_ok-put.ensures.rest c.in_ok-lower_args.ensures) in
    arm_written p c.args.class c.args.line c.args.spot (args_meant (context_in p d0) es) (is_mutex_at p c.args.class) c.constructor_of-routine.result n d0 d1 c.lower_args.new.out _ _ _ c.constructor_of-routine.ensures c.if-routine.true spot args c.in_ok-put-2.ensures c.in_ok-put_made.ensures c.in_ok-put_at_risk.ensures

pub returns-in_ok-put_at_risk-2-clause-code : goal.returns-in_ok-put_at_risk-2-clause-code
returns-in_ok-put_at_risk-2-clause-code c =
    let p = c.args.names.now in
    let d0 = c.args.out.now in
    let d1 = c.put.new.out in
    let es = exprs_of c.args.args.now in
    let n = OPS_FOR_SIZE * exprs_size (exprs_of c.args.args.now) in
    let spot = subst (λ (o : Op). Adds 1 (OpCode c.args.line o) d0 d1) c.spot_op.ensures c.in_ok-put.ensures in
    arm_unwritten p c.args.class c.args.line c.args.spot (args_meant (context_in p d0) es) (is_mutex_at p c.args.class) c.constructor_of-routine.result n _ d0 d1 _ _ c.constructor_of-routine.ensures c.if-routine.false c.requires.behind spot c.in_ok-put_made-2.ensures c.in_ok-put_at_risk-2.ensures
