use Rattle.std.proofs.Common.{◌≡◌, ℕ, ◌<◌, length, drop, slice_index_or}
use Rattle.uc_links.specs.Lists.{member_limit}
use Rattle.uc_tree.specs.SiteOffers.{clause_for, or_0, offers_from}
use Rattle.uc_mutex.specs.Offers.{found_or, offers_by}
use Rattle.uc_mutex.proofs.offers.clauses_by.Given as goal

abbrev pub invariant-loop-at : goal.invariant-loop-at
invariant-loop-at l = record {
  all : length l.found ≡ member_limit;
  clause : (m : ℕ) → m < member_limit → or_0 (clause_for (offers_by l.site l.mask) m) ≡ found_or (slice_index_or l.found m 0) (offers_from l.at l.mask (drop l.at l.site.clauses)) m;
}
