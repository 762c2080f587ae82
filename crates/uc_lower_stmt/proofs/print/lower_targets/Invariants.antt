use Rattle.std.proofs.Common.{◌*◌, take}
use Rattle.uc_tree.specs.declared.limits.TheConstants.{OPS_FOR_SIZE}
use Rattle.uc_tree.specs.Expressions.{exprs_of}
use Rattle.uc_tree.specs.ExpressionSizes.{exprs_size}
use Rattle.uc_resolve.specs.Resolve.{targets_meant}
use Rattle.uc_lower_expr.specs.DraftGrowth.{Adds}
use Rattle.uc_lower_expr.specs.Contexts.{context_in}
use Rattle.uc_lower_stmt.specs.Pieces.{TargetsCode}
use Rattle.uc_lower_stmt.proofs.print.lower_targets.Given as goal

abbrev pub invariant-loop-place : goal.invariant-loop-place
invariant-loop-place l = Adds (OPS_FOR_SIZE * exprs_size (exprs_of (take l.place-index l.places))) (TargetsCode l.line l.initial.out.marks (targets_meant (context_in l.names l.initial.out) (exprs_of (take l.place-index l.places)))) l.initial.out l.out
