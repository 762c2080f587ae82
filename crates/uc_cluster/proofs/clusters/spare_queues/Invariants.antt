use Rattle.std.proofs.Common.{◌≡◌, ◌+◌, length, []}
use Rattle.std.specs.List.{AllByRecursion}
use Rattle.uc_cluster.proofs.clusters.spare_queues.Given as goal

abbrev pub invariant-loop : goal.invariant-loop
invariant-loop l = record {
  count : length l.spare.items + 1 ≡ l.counter;
  empty : AllByRecursion (λ q. q ≡ []) l.spare.items;
}
