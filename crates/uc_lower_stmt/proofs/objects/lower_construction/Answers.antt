use Rattle.std.proofs.Common.{◌+◌, ◌*◌, arith}
use Rattle.uc_tree.specs.declared.limits.TheConstants.{OPS_FOR_SIZE}
use Rattle.uc_tree.specs.Expressions.{exprs_of}
use Rattle.uc_tree.specs.ExpressionSizes.{exprs_size}
use Rattle.uc_resolve.specs.Resolve.{args_meant}
use Rattle.uc_lower_expr.specs.declared.making.Made.TheVariants as made
use Rattle.uc_lower_expr.specs.Contexts.{context_in}
use Rattle.uc_lower_expr.proofs.Adding.{adds_more}
use Rattle.uc_lower_stmt.proofs.Building.{behind_in, class_in, construction_is}
use Rattle.uc_lower_stmt.proofs.objects.lower_construction.Goals as goal

pub construct_object-requires-clause-class : goal.construct_object-requires-clause-class
construct_object-requires-clause-class c = class_in c.args.names.now c.in-Object.class c.args.made c.in-Object.is c.requires.class

pub construct_object-requires-clause-behind : goal.construct_object-requires-clause-behind
construct_object-requires-clause-behind c = behind_in c.args.names.now c.in-Object.class c.args.made c.args.spot _ c.args.out.now.marks c.in-Object.is c.requires.behind

pub returns-in_ok-construct_object-in-Object-clause-code : goal.returns-in_ok-construct_object-in-Object-clause-code
returns-in_ok-construct_object-in-Object-clause-code c =
    let p = c.args.names.now in
    let es = exprs_of c.args.args.now in
    construction_is p (OPS_FOR_SIZE * exprs_size es + 5) c.args.line c.args.made (made.Object c.in-Object.class) c.args.spot (args_meant (context_in p c.args.out.now) es) c.args.out.now _ c.in-Object.is c.in_ok-construct_object-in-Object.ensures.code

pub returns-in_ok-open_cluster-in-Cluster-clause-code : goal.returns-in_ok-open_cluster-in-Cluster-clause-code
returns-in_ok-open_cluster-in-Cluster-clause-code c =
    let p = c.args.names.now in
    let es = exprs_of c.args.args.now in
    construction_is p (OPS_FOR_SIZE * exprs_size es + 5) c.args.line c.args.made made.Cluster c.args.spot (args_meant (context_in p c.args.out.now) es) c.args.out.now _ c.in-Cluster.is (λ place at. adds_more (omega arith) (c.in_ok-open_cluster-in-Cluster.ensures.code place at))

pub returns-in_ok-open_processor-in-Processor-clause-code : goal.returns-in_ok-open_processor-in-Processor-clause-code
returns-in_ok-open_processor-in-Processor-clause-code c =
    let p = c.args.names.now in
    let es = exprs_of c.args.args.now in
    construction_is p (OPS_FOR_SIZE * exprs_size es + 5) c.args.line c.args.made made.Processor c.args.spot (args_meant (context_in p c.args.out.now) es) c.args.out.now _ c.in-Processor.is (λ place at. adds_more (omega arith) (c.in_ok-open_processor-in-Processor.ensures.code place at))
