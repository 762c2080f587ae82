use Rattle.std.proofs.Common.{◌≡◌, length}
use Rattle.uc_layout.specs.ContainmentProgress.{AreCircles}
use Rattle.uc_layout.proofs.circles.circles_of.Given as goal

abbrev pub invariant-loop-class : goal.invariant-loop-class
invariant-loop-class l = (length l.circles.items ≡ l.class) × AreCircles l.rows l.circles.items l.class
