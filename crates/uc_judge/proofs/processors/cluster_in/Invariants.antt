use Rattle.std.proofs.Common.{◌≡◌, drop}
use Rattle.uc_acts.specs.Queues.{cluster_in}
use Rattle.uc_judge.proofs.processors.cluster_in.Given as goal

-- none of the rows so far is of the processor
abbrev pub invariant-loop-row : goal.invariant-loop-row
invariant-loop-row l = cluster_in l.processor l.rows ≡ cluster_in l.processor (drop l.row-index l.rows)
