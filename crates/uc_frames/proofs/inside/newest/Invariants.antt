use Rattle.std.proofs.Common.{◌≤◌, length}
use Rattle.uc_frames.proofs.Entered.{NoneFrom}
use Rattle.uc_frames.proofs.inside.newest.Given as goal

-- none of those that stand from there on has the number
abbrev pub invariant-loop-at : goal.invariant-loop-at
invariant-loop-at l = (l.at ≤ length l.rows) × NoneFrom l.object l.rows l.at

abbrev pub decreases-loop-at : goal.decreases-loop-at
decreases-loop-at l = l.at
