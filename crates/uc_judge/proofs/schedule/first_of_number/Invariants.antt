use Rattle.std.proofs.Common.{◌≡◌, drop}
use Rattle.uc_acts.specs.Answers.{first_of}
use Rattle.uc_judge.specs.Scheduled.{of_number}
use Rattle.uc_judge.proofs.schedule.first_of_number.Given as goal

-- none of the rows so far has the number
abbrev pub invariant-loop-row : goal.invariant-loop-row
invariant-loop-row l = first_of (of_number l.number l.rows) ≡ first_of (of_number l.number (drop l.row-index l.rows))
