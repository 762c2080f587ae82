use Rattle.std.proofs.Common.{◌≡◌, take}
use Rattle.std.specs.List.{AllByRecursion}
use Rattle.uc_mutex.specs.Offers.{AreMembers}
use Rattle.uc_vproc.proofs.sites.known_clauses.Given as goal

abbrev pub invariant-loop-at : goal.invariant-loop-at
invariant-loop-at l = record { same : l.copies.items ≡ take l.at l.clauses; known : AllByRecursion AreMembers l.copies.items }
