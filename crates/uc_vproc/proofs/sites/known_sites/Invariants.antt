use Rattle.std.proofs.Common.{◌≡◌, take}
use Rattle.uc_kernel_core.specs.Mirrors.{AreKnownSites}
use Rattle.uc_vproc.proofs.sites.known_sites.Given as goal

abbrev pub invariant-loop-at : goal.invariant-loop-at
invariant-loop-at l = record { same : l.copies.items ≡ take l.at l.sites; known : AreKnownSites l.copies.items }
