use Rattle.std.proofs.Common.{◌≡◌, ◌++◌, drop}
use Rattle.uc_types.specs.Listings.{members_seen}
use Rattle.uc_types.proofs.listing.members_in.Given as goal

abbrev pub invariant-loop-place : goal.invariant-loop-place
invariant-loop-place l =
    l.list.items ++ members_seen l.listed.bases.now (record { place = l.listed.place; class = l.listed.class.now }) l.place (drop l.place l.members)
    ≡ members_seen l.listed.bases.now (record { place = l.listed.place; class = l.listed.class.now }) 0 l.members
