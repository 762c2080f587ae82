use Rattle.std.proofs.Common.{◌≡◌, ◌≤◌, length}
use Rattle.uc_frames.specs.Searches.{first_in, named}
use Rattle.uc_frames.proofs.search.first_from.Given as goal

abbrev pub invariant-loop-at : goal.invariant-loop-at
invariant-loop-at l = (l.at ≤ length l.rows) × (first_in l.sought l.rows (named l.rows l.at) ≡ first_in l.sought l.rows (named l.rows l.number))

abbrev pub decreases-loop-at : goal.decreases-loop-at
decreases-loop-at l = l.at
