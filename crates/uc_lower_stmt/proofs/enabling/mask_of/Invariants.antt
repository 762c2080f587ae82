use Rattle.std.proofs.Common.{◌≡◌, ◌≤◌, length, drop}
use Rattle.uc_resolve.specs.Resolve.{events_named}
use Rattle.uc_lower_stmt.proofs.enabling.mask_of.Given as goal

abbrev pub invariant-loop-i : goal.invariant-loop-i
invariant-loop-i l = (l.i ≤ length l.events) × (l.mask ≡ events_named l.names (drop l.i l.events))

abbrev pub decreases-loop-i : goal.decreases-loop-i
decreases-loop-i l = l.i
