use Rattle.std.proofs.Common.{◌≡◌, take}
use Rattle.uc_lower_stmt.proofs.RoutinesLemmas.{with_params}
use Rattle.uc_lower_stmt.proofs.routine.declare_params.Given as goal

abbrev pub invariant-loop-param : goal.invariant-loop-param
invariant-loop-param l = l.out ≡ with_params l.names (take l.param-index l.params) l.initial.out
