use Rattle.std.proofs.Common.{◌≡◌, ◌<◌, false, None, slice_index_or, ℕ}
use Rattle.uc_cluster.specs.Standing.{is_on}
use Rattle.uc_cluster.proofs.clusters.Clusters.has_tasks.Given as goal

abbrev pub invariant-loop-task : goal.invariant-loop-task
invariant-loop-task l = record {
  elsewhere : (t : ℕ) → t < l.task → is_on l.cluster (slice_index_or l.self-inside.places t None) ≡ false;
}
