use Rattle.std.proofs.Common.{◌*◌, length, take}
use Rattle.uc_tree.specs.declared.limits.TheConstants.{OPS_FOR_SIZE}
use Rattle.uc_tree.specs.StatementSizes.{declarators_size}
use Rattle.uc_tree.specs.Cells.{declared_cells, declarators_cells}
use Rattle.uc_lower_expr.specs.Meanings.{making_of}
use Rattle.uc_resolve.specs.Resolve.{objects_scoped, with_all}
use Rattle.uc_lower_stmt.specs.OpenScopes.{Lays}
use Rattle.uc_lower_stmt.specs.LowersStatement.{scope_of}
use Rattle.uc_lower_stmt.proofs.block.lower_objects.Given as goal

abbrev pub invariant-loop-declarator : goal.invariant-loop-declarator
invariant-loop-declarator l = Lays (OPS_FOR_SIZE * declarators_size (take l.declarator-index l.declarators)) 0 (declarators_cells (declared_cells l.names l.base) (take l.declarator-index l.declarators)) (length (take l.declarator-index l.declarators)) 0 l.block (objects_scoped l.names (making_of l.names l.made) l.line l.base (take l.declarator-index l.declarators) (scope_of l.initial.out)) (with_all l.names (scope_of l.initial.out) l.base (take l.declarator-index l.declarators)) l.initial.out l.out
