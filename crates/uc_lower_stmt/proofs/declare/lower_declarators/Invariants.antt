use Rattle.std.proofs.Common.{◌*◌, take}
use Rattle.uc_tree.specs.declared.limits.TheConstants.{OPS_FOR_SIZE}
use Rattle.uc_tree.specs.StatementSizes.{declarators_size}
use Rattle.uc_tree.specs.Cells.{declared_cells, declarators_cells}
use Rattle.uc_resolve.specs.Resolve.{all_declared, with_all}
use Rattle.uc_lower_stmt.specs.LowersStatement.{Lowers, scope_of}
use Rattle.uc_lower_stmt.specs.Pieces.{VariablesCode}
use Rattle.uc_lower_stmt.proofs.declare.lower_declarators.Given as goal

abbrev pub invariant-loop-declarator : goal.invariant-loop-declarator
invariant-loop-declarator l = Lowers 0 (OPS_FOR_SIZE * declarators_size (take l.declarator-index l.declarators)) 0 (declarators_cells (declared_cells l.names l.base) (take l.declarator-index l.declarators)) 0 (VariablesCode l.line l.initial.out.marks (all_declared l.names (scope_of l.initial.out) l.base (take l.declarator-index l.declarators))) (with_all l.names (scope_of l.initial.out) l.base (take l.declarator-index l.declarators)) l.initial.out l.out
