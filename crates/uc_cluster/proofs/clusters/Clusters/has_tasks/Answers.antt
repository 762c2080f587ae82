use Rattle.std.proofs.Common.{◌≡◌, ◌<◌, ◌≤◌, ◌∙◌, None, sym, ap, arith, length}
use Rattle.std.specs.List.{list_any}
use Rattle.uc_cluster.specs.Standing.{Standing, is_on}
use Rattle.uc_cluster.proofs.Queues.{none_at}
use Rattle.uc_cluster.proofs.clusters.Clusters.has_tasks.Goals as goal

pub returns : goal.returns
returns c =
    let places = c.self.inside.places in
    let all = c.len-task-end.ensures in
    let test = c.loop-task-test.false in
    sym (none_at (is_on c.args.cluster) places None (λ t lt. c.loop-task.invariant.elsewhere t (omega arith))) ∙ ap (λ (v : Standing). list_any (is_on c.args.cluster) v.places) c.self.view_is
