use Rattle.std.proofs.Common.{length, reverse}
use Rattle.uc_lower_class.proofs.Parting.{Ending}
use Rattle.uc_lower_class.proofs.parts.close_parts.Given as goal

abbrev pub invariant-loop-what : goal.invariant-loop-what
invariant-loop-what l = Ending (reverse l.initial.parts.items) l.initial.out (reverse l.parts.items) l.out

abbrev pub decreases-loop-what : goal.decreases-loop-what
decreases-loop-what l = length l.parts.items
