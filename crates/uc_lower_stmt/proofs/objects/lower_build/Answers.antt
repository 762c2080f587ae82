use Rattle.std.proofs.Common.{◌*◌, ap, arith}
use Rattle.uc_tree.specs.declared.limits.TheConstants.{OPS_FOR_SIZE}
use Rattle.uc_tree.specs.Expressions.{exprs_of}
use Rattle.uc_tree.specs.ExpressionSizes.{exprs_size}
use Rattle.uc_resolve.specs.Resolve.{args_meant}
use Rattle.uc_lower_expr.specs.Contexts.{context_in}
use Rattle.uc_lower_stmt.specs.Objects.{build_room}
use Rattle.uc_lower_stmt.proofs.Building.{arm_all, arm_one}
use Rattle.uc_lower_stmt.proofs.objects.lower_build.Goals as goal

pub put-requires : goal.put-requires
put-requires c =
    let room = ap build_room c.in-None.is in
    omega (arith, room, c.requires.room, c.in_ok-lower_construction-in-None.ensures.room)

pub returns-in_ok-put-in-None : goal.returns-in_ok-put-in-None
returns-in_ok-put-in-None c =
    let p = c.args.names.now in
    arm_one p c.args.made c.args.line c.args.spot c.args.elements (args_meant (context_in p c.args.out.now) (exprs_of c.args.args.now)) (OPS_FOR_SIZE * exprs_size (exprs_of c.args.args.now)) c.args.out.now _ _ c.in-None.is c.in_ok-lower_construction-in-None.ensures.code c.in_ok-put-in-None.ensures

pub returns-in_ok-put_fill-in-Some : goal.returns-in_ok-put_fill-in-Some
returns-in_ok-put_fill-in-Some c =
    let p = c.args.names.now in
    arm_all p c.law_cells.ensures c.args.made c.args.line c.args.spot c.args.elements c.array_of-array.result (args_meant (context_in p c.args.out.now) (exprs_of c.args.args.now)) (OPS_FOR_SIZE * exprs_size (exprs_of c.args.args.now)) c.in-Some.count c.builder_of-builder.result c.destroyer_of-destroyer.result c.args.out.now _ c.in-Some.is
    c.array_of-array.ensures c.builder_of-builder.ensures c.destroyer_of-destroyer.ensures c.in_ok-put_fill-in-Some.ensures
