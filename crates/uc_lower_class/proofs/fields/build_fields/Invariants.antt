use Rattle.uc_lower_stmt.specs.LowersStatement.{scope_of}
use Rattle.uc_lower_class.proofs.Looping.{Building}
use Rattle.uc_lower_class.proofs.fields.build_fields.Given as goal

abbrev pub invariant-loop-place : goal.invariant-loop-place
invariant-loop-place l = Building l.names l.at l.class l.inits (scope_of l.initial.out) l.initial.parts.items l.initial.out l.place l.parts.items l.out
