use Rattle.std.proofs.Common.{arith}
use Rattle.uc_lower_stmt.proofs.Clustered.{cluster_first, cluster_fit, cluster_named}
use Rattle.uc_lower_stmt.proofs.clusters.lower_cluster.Goals as goal

pub lower_expr-requires : goal.lower_expr-requires
lower_expr-requires c =
    let r = c.requires in
    let fit = cluster_fit c.in-Some.arg.now c.args.args.now c.in-Some.ensures.value in
    omega (arith, r, fit)

pub returns-in_ok-_told-in-Some : goal.returns-in_ok-_told-in-Some
returns-in_ok-_told-in-Some c = cluster_named c.args.names.now c.in-Some.arg.now c.args.args.now c.args.line _ _ c.in-Some.ensures.value c.in_ok-_told-in-Some.ensures.code

pub returns-in_ok-put-in-None : goal.returns-in_ok-put-in-None
returns-in_ok-put-in-None c = cluster_first c.args.names.now c.args.args.now c.args.line _ _ c.in-None.ensures.value c.in_ok-put-in-None.ensures
