use Rattle.std.proofs.Common.{◌≡◌, ◌+◌, ◌≤◌, drop, length}
use Rattle.uc_tree.specs.SiteOffers.{met, offers_from}
use Rattle.uc_mutex.specs.Doors.{door_at}
use Rattle.uc_mutex.specs.Offers.{offers_by}
use Rattle.uc_accept.specs.Accepting.{unpulled}
use Rattle.uc_accept.proofs.accepting.pull_first.Given as goal

abbrev pub invariant-loop-at : goal.invariant-loop-at
invariant-loop-at g l = record {
  same : unpulled l.entries ≡ unpulled l.fn.entries;
  tried : met (offers_by l.site l.mask) (door_at l.fn.entries l.object).waiting ≡ met (offers_from l.at l.mask (drop l.at l.site.clauses)) (door_at l.fn.entries l.object).waiting;
  moves : l.moves + length (offers_from l.at l.mask (drop l.at l.site.clauses)) ≤ l.fn.moves + length (offers_by l.site l.mask);
}
