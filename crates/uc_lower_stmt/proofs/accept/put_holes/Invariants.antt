use Rattle.uc_lower_expr.specs.DraftGrowth.{Adds}
use Rattle.uc_lower_stmt.specs.Accepting.{HolesCode}
use Rattle.uc_lower_stmt.proofs.accept.put_holes.Given as goal

abbrev pub invariant-loop : goal.invariant-loop
invariant-loop l = Adds l.counter (HolesCode l.line l.counter) l.initial.out l.out
