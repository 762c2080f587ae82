use Rattle.std.proofs.Common.{◌≡◌, ◌≤◌, max, drop}
use Rattle.uc_tree.specs.Objects.{tallest}
use Rattle.uc_implicit.specs.Heights.{height_at}
use Rattle.uc_implicit.proofs.heights.tallest.Given as goal

abbrev pub invariant-loop-field : goal.invariant-loop-field
invariant-loop-field l = (max l.height (tallest (height_at l.heights) (drop l.field-index l.held)) ≡ tallest (height_at l.heights) l.held) × (l.height ≤ l.count)
