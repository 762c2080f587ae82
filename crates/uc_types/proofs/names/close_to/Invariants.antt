use Rattle.std.proofs.Common.{◌≡◌, ◌≤◌, length, take, []}
use Rattle.uc_types.specs.LocalBlocks.{stacked}
use Rattle.uc_types.proofs.names.close_to.Given as goal

abbrev pub invariant-loop-place : goal.invariant-loop-place
invariant-loop-place l = (l.place ≤ length l.names.items) × (l.places ≡ stacked 0 (take l.place l.names.items) []) × (take l.count (take l.place l.names.items) ≡ take l.count l.names.items)

abbrev pub decreases-loop-place : goal.decreases-loop-place
decreases-loop-place l = l.place
