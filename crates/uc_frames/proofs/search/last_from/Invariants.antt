use Rattle.uc_frames.proofs.Named.{Within}
use Rattle.uc_frames.proofs.search.last_from.Given as goal

abbrev pub invariant-loop-at : goal.invariant-loop-at
invariant-loop-at l = Within l.rows l.rest l.number l.at l.count l.round

abbrev pub decreases-loop-at : goal.decreases-loop-at
decreases-loop-at l = l.at
