use Rattle.std.proofs.Common.{◌≡◌, ◌≤◌, ◌+◌, length}
use Rattle.uc_frames.specs.Searches.{named}
use Rattle.uc_frames.proofs.search.count_from.Given as goal

abbrev pub invariant-loop-at : goal.invariant-loop-at
invariant-loop-at l = (l.at ≤ length l.rows) × (l.count + l.at ≤ length l.rows) × (l.count + length (named l.rows l.at) ≡ length (named l.rows l.number))

abbrev pub decreases-loop-at : goal.decreases-loop-at
decreases-loop-at l = l.at
