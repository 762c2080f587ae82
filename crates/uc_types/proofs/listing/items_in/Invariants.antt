use Rattle.std.proofs.Common.{◌≡◌, ◌++◌, drop}
use Rattle.uc_types.specs.Listings.{items_seen}
use Rattle.uc_types.proofs.listing.items_in.Given as goal

abbrev pub invariant-loop-place : goal.invariant-loop-place
invariant-loop-place l = l.list.items ++ items_seen l.bases l.place (drop l.place l.items) ≡ items_seen l.bases 0 l.items
