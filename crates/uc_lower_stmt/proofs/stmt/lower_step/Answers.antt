use Rattle.std.proofs.Common.{ap, arith}
use Rattle.uc_tree.specs.StatementSizes.{maybe_expr_size}
use Rattle.uc_lower_expr.proofs.Walks.{some_size}
use Rattle.uc_lower_stmt.proofs.Parting.{arm_no_step, arm_step}
use Rattle.uc_lower_stmt.proofs.stmt.lower_step.Goals as goal

pub put-requires : goal.put-requires
put-requires c =
    let r = c.in_ok-_told-in-Some.ensures.code.room in
    let s = some_size c.in-Some.step in
    let n = ap maybe_expr_size c.in-Some.is in
    let all = c.requires in
    omega (arith, r, s, n, all)

pub returns-in_ok-put-in-Some : goal.returns-in_ok-put-in-Some
returns-in_ok-put-in-Some c = arm_step c.args.names.now c.args.line _ c.in-Some.step _ _ _ c.in-Some.is c.in_ok-_told-in-Some.ensures.code c.in_ok-put-in-Some.ensures

pub returns-in-None : goal.returns-in-None
returns-in-None c = arm_no_step c.args.names.now c.args.line _ _ c.in-None.is
