use Rattle.std.proofs.Common.{◌≡◌, ◌++◌, drop}
use Rattle.uc_types.specs.Listings.{fields_seen}
use Rattle.uc_types.proofs.listing.push_fields.Given as goal

abbrev pub invariant-loop-index : goal.invariant-loop-index
invariant-loop-index l =
    l.list.items ++ fields_seen l.listed.bases.now (record { place = l.listed.place; class = l.listed.class.now }) l.access l.member l.index l.base (drop l.index l.declarators)
    ≡ l.initial.list.items ++ fields_seen l.listed.bases.now (record { place = l.listed.place; class = l.listed.class.now }) l.access l.member 0 l.base l.declarators
