use Rattle.std.proofs.Common.{◌≡◌, ◌&&◌, not, drop}
use Rattle.std.specs.List.{list_any}
use Rattle.uc_acts.specs.Journal.{Journal}
use Rattle.uc_acts.specs.Queues.{is_nobody, ready, running}
use Rattle.uc_judge.specs.Scheduled.{IsSchedule}
use Rattle.uc_judge.proofs.serving.any_waits.Given as goal

-- none of the rows so far is one
abbrev pub invariant-loop-row : goal.invariant-loop-row
invariant-loop-row l =
    (j : Journal) → IsSchedule l.schedule j → list_any (λ x. is_nobody (running x.0 j) && not (is_nobody (ready x.1 j))) l.processors ≡ list_any (λ x. is_nobody (running x.0 j) && not (is_nobody (ready x.1 j))) (drop l.row-index l.processors)
