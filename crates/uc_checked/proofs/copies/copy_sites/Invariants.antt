use Rattle.std.proofs.Common.{◌≡◌, take}
use Rattle.uc_checked.proofs.copies.copy_sites.Given as goal

abbrev pub invariant-loop-at : goal.invariant-loop-at
invariant-loop-at l = l.copies.items ≡ take l.at l.sites
