use Rattle.uc_lower_class.proofs.Looping.{Leaving}
use Rattle.uc_lower_class.proofs.fields.leave_fields.Given as goal

abbrev pub invariant-loop-place : goal.invariant-loop-place
invariant-loop-place l = Leaving l.names l.at l.class l.initial.out l.place l.out
