use Rattle.std.proofs.Common.{◌≡◌, ◌≤◌}
use Rattle.uc_links.specs.Lists.{empty_pool}
use Rattle.uc_links.proofs.pool.Links.new.Given as goal

abbrev pub invariant-loop-id : goal.invariant-loop-id
invariant-loop-id l = (l._id ≤ l.nodes) × (l.links ≡ empty_pool l._id)
