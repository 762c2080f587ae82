use Rattle.std.proofs.Common.{◌≡◌, take, false}
use Rattle.uc_acts.specs.Known.{has}
use Rattle.uc_kernel.specs.Numbered.{keys}
use Rattle.uc_vproc.proofs.fits.holds.Given as goal

abbrev pub invariant-loop-at : goal.invariant-loop-at
invariant-loop-at l = has (keys (take l.at l.hand.items)) l.object ≡ false
