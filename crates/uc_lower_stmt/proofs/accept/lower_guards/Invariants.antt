use Rattle.std.proofs.Common.{take}
use Rattle.uc_lower_expr.specs.Contexts.{context_in}
use Rattle.uc_lower_expr.specs.DraftGrowth.{Adds}
use Rattle.uc_lower_stmt.specs.Accepting.{GuardsCode, guards_room}
use Rattle.uc_lower_stmt.proofs.accept.lower_guards.Given as goal

abbrev pub invariant-loop-clause : goal.invariant-loop-clause
invariant-loop-clause l = Adds (guards_room (take l.clause-index l.clauses)) (GuardsCode l.line l.initial.out.marks (context_in l.names l.initial.out) (take l.clause-index l.clauses)) l.initial.out l.out
