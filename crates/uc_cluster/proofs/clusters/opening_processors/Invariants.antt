use Rattle.std.proofs.Common.{◌≡◌, ◌≤◌, replicate, vec_capacity}
use Rattle.uc_tree.specs.declared.limits.TheConstants.{PROCESSORS}
use Rattle.uc_cluster.specs.Standing.{new_processor}
use Rattle.uc_cluster.proofs.clusters.opening_processors.Given as goal

abbrev pub invariant-loop : goal.invariant-loop
invariant-loop l = record {
  made : l.processors.items ≡ replicate l.counter (new_processor 0);
  room : PROCESSORS ≤ vec_capacity l.processors;
}
