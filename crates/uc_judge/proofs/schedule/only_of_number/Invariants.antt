use Rattle.std.proofs.Common.{◌≡◌, drop}
use Rattle.uc_judge.specs.Scheduled.{of_number, only_of}
use Rattle.uc_judge.proofs.schedule.only_of_number.Given as goal

-- none of the rows so far has the number
abbrev pub invariant-loop-at : goal.invariant-loop-at
invariant-loop-at l = only_of (of_number l.number l.rows) ≡ only_of (of_number l.number (drop l.at l.rows))
