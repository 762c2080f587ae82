use Rattle.std.proofs.Common.{ap, ◌∙◌}
use Rattle.uc_cluster.specs.Standing.{taking}
use Rattle.uc_cluster.proofs.Marks.{taken_is}
use Rattle.uc_cluster.proofs.clusters.Clusters.taking.Goals as goal

pub returns-clause-value : goal.returns-clause-value
returns-clause-value c =
    let s = c.self.inside in let inv = c.self.invariant in
    taken_is s.queues.items s.processors.items s.members.items s.idle s.served c.and.result c.least.result inv.4 c.and.ensures inv.7 c.least.ensures.some c.least.ensures.none ∙ ap taking c.self.view_is
