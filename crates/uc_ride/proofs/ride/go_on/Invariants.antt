use Rattle.std.proofs.Common.{◌≡◌, ◌≤◌}
use Rattle.uc_frames.specs.Weight.{total}
use Rattle.uc_step.specs.WeightFalls.{Keeps}
use Rattle.uc_ride.specs.RideStands.{IsOnWay}
use Rattle.uc_ride.proofs.ride.go_on.Given as goal

-- each ride from here is one from the start
abbrev pub invariant-ticks : goal.invariant-ticks
invariant-ticks l = record {
  way : IsOnWay l.code l.quantum l.left l.fn.work l.work;
  some : 1 ≤ l.left;
  few : l.left ≤ l.quantum;
  kept : Keeps l.code l.work;
}

abbrev pub decreases-ticks : goal.decreases-ticks
decreases-ticks l = l.left

-- up to a tick
abbrev pub invariant-stops : goal.invariant-stops
invariant-stops l = record {
  way : IsOnWay l.code l.quantum l.left l.fn.work l.work;
  some : 1 ≤ l.left;
  few : l.left ≤ l.quantum;
  kept : Keeps l.code l.work;
  same : l.left ≡ l.before;
}

abbrev pub decreases-stops : goal.decreases-stops
decreases-stops l = total l.code.ops l.work
