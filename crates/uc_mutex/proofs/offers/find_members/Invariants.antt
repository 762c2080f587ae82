use Rattle.std.proofs.Common.{◌≡◌, ℕ, ◌<◌, List, drop, slice_index_or}
use Rattle.uc_links.specs.Lists.{member_limit}
use Rattle.uc_mutex.specs.Offers.{found_or}
use Rattle.uc_mutex.proofs.Offering.{listed}
use Rattle.uc_mutex.proofs.offers.find_members.Given as goal

abbrev pub invariant-loop-at : goal.invariant-loop-at
invariant-loop-at l = (rest : List (ℕ × ℕ)) (m : ℕ) → m < member_limit
    → found_or (slice_index_or l.fn.found m 0) (listed l.clause l.members rest) m ≡ found_or (slice_index_or l.found m 0) (listed l.clause (drop l.at l.members) rest) m
