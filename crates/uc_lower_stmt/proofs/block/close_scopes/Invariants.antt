use Rattle.std.proofs.Common.{length}
use Rattle.uc_lower_stmt.specs.Blocks.{EndingScopes}
use Rattle.uc_lower_stmt.proofs.block.close_scopes.Given as goal

abbrev pub invariant-loop-scope : goal.invariant-loop-scope
invariant-loop-scope l = EndingScopes l.count l.fn.out l.out

abbrev pub decreases-loop-scope : goal.decreases-loop-scope
decreases-loop-scope l = length l.out.marks
