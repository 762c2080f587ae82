use Rattle.std.proofs.Common.{length}
use Rattle.uc_lower.proofs.Ending.{Stands}
use Rattle.uc_lower.proofs.routines.lower_routines.Given as goal

abbrev pub invariant-loop-number : goal.invariant-loop-number
invariant-loop-number l = Stands l.names (length l.fn.out.routines) l.number l.texts l.sites l.out
