use Rattle.std.proofs.Common.{◌≡◌, ◌&&◌, Some, drop, map}
use Rattle.uc_rules.specs.Names.{member_named}
use Rattle.uc_rules.specs.ExpressionBreaks.{all_listed, are_fresh, listed_in}
use Rattle.uc_check_stmt.proofs.accept.list_members.Given as goal

abbrev pub invariant-loop-member : goal.invariant-loop-member
invariant-loop-member l = record {
  seen : all_listed l.seen.items (map (listed_in (member_named l.listing.tables.now l.listing.place) (Some l.listing.class.now)) (drop l.member-index l.members)) ≡ all_listed l.fn.seen.items (map (listed_in (member_named l.listing.tables.now l.listing.place) (Some l.listing.class.now)) l.members);
  fresh : l.fresh && are_fresh l.seen.items (map (listed_in (member_named l.listing.tables.now l.listing.place) (Some l.listing.class.now)) (drop l.member-index l.members)) ≡ are_fresh l.fn.seen.items (map (listed_in (member_named l.listing.tables.now l.listing.place) (Some l.listing.class.now)) l.members);
}
