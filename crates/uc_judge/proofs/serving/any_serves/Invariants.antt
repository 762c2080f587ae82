use Rattle.std.proofs.Common.{◌≡◌, ◌==◌, ◌&&◌, drop}
use Rattle.std.specs.List.{list_any}
use Rattle.uc_acts.specs.Journal.{Journal}
use Rattle.uc_acts.specs.Queues.{ready}
use Rattle.uc_judge.specs.Scheduled.{IsSchedule, is_first}
use Rattle.uc_judge.proofs.serving.any_serves.Given as goal

-- none of the rows so far is the one
abbrev pub invariant-loop-row : goal.invariant-loop-row
invariant-loop-row l =
    (j : Journal) → IsSchedule l.schedule j → list_any (λ x. (x.0 == l.processor) && is_first l.task (ready x.1 j)) l.processors ≡ list_any (λ x. (x.0 == l.processor) && is_first l.task (ready x.1 j)) (drop l.row-index l.processors)
