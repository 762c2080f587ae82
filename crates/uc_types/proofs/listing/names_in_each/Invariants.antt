use Rattle.std.proofs.Common.{◌≡◌, ◌++◌, drop, map}
use Rattle.uc_types.specs.Listings.{classes_seen}
use Rattle.uc_types.proofs.listing.names_in_each.Given as goal

abbrev pub invariant-loop-place : goal.invariant-loop-place
invariant-loop-place l = l.directories.items ++ classes_seen l.bases l.place (map (λ c. c.now) (drop l.place l.classes)) ≡ classes_seen l.bases 0 (map (λ c. c.now) l.classes)
