use Rattle.std.proofs.Common.{◌∙◌, ap}
use Rattle.uc_cluster.specs.Standing.{Standing, made_ready}
use Rattle.uc_kernel_core.proofs.kernel_core.first_clusters.Goals as goal

pub returns : goal.returns
returns c = c.ready.ensures ∙ ap (λ (v : Standing). made_ready 0 v) c.in_ok-clusters.ensures
