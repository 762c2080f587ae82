use Rattle.std.proofs.Common.{◌≡◌, drop}
use Rattle.std.specs.List.{list_all}
use Rattle.uc_acts.specs.Queues.{is_nobody}
use Rattle.uc_judge.specs.Scheduled.{of_number}
use Rattle.uc_judge.proofs.schedule.none_on.Given as goal

-- nobody has the number of the cluster of any processor so far
abbrev pub invariant-loop-processor : goal.invariant-loop-processor
invariant-loop-processor l =
    list_all (λ x. is_nobody (of_number x.1 l.rows)) l.processors ≡ list_all (λ x. is_nobody (of_number x.1 l.rows)) (drop l.processor-index l.processors)
