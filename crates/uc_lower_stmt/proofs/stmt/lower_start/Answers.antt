use Rattle.std.proofs.Common.{ap, arith}
use Rattle.uc_tree.specs.StatementSizes.{for_start_size}
use Rattle.uc_lower_expr.proofs.Walks.{some_size}
use Rattle.uc_lower_stmt.proofs.Fors.{arm_start_declare, arm_start_evaluate, arm_start_nothing, for_is}
use Rattle.uc_lower_stmt.proofs.stmt.lower_start.Goals as goal

pub put-requires : goal.put-requires
put-requires c =
    let r = c.in_ok-_told-in-Evaluate.ensures.code.room in
    let s = some_size c.in-Evaluate.value in
    let n = ap for_start_size (for_is _ _ _ c.in-Evaluate.is c.start.view_is) in
    let all = c.requires.room in
    omega (arith, r, s, n, all)

pub returns-in-Nothing : goal.returns-in-Nothing
returns-in-Nothing c = arm_start_nothing c.args.names.now c.args.line _ _ (for_is _ _ _ c.in-Nothing.is c.start.view_is)

pub returns-in_ok-lower_for_declaration-in-Declare : goal.returns-in_ok-lower_for_declaration-in-Declare
returns-in_ok-lower_for_declaration-in-Declare c =
    arm_start_declare c.args.names.now c.args.line _ _ c.in-Declare.base c.deref.result.now c.in-Declare.declarators.items _ _ (for_is _ _ _ c.in-Declare.is c.start.view_is) c.deref.ensures.value c.in_ok-lower_for_declaration-in-Declare.ensures

pub returns-in_ok-put-in-Evaluate : goal.returns-in_ok-put-in-Evaluate
returns-in_ok-put-in-Evaluate c = arm_start_evaluate c.args.names.now c.args.line _ c.in-Evaluate.value _ _ _ (for_is _ _ _ c.in-Evaluate.is c.start.view_is) (some_size c.in-Evaluate.value) c.in_ok-_told-in-Evaluate.ensures.code c.in_ok-put-in-Evaluate.ensures
