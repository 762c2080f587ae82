use Rattle.std.proofs.Common.{take}
use Rattle.uc_mutex.specs.Offers.{AreMembers}
use Rattle.uc_vproc.proofs.sites.are_members.Given as goal

abbrev pub invariant-loop-at : goal.invariant-loop-at
invariant-loop-at l = AreMembers (take l.at l.numbers)
