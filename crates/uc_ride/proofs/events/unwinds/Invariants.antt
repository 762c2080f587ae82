use Rattle.std.proofs.Common.{ℕ}
use Rattle.uc_step.specs.WeightFalls.{FallsBelow}
use Rattle.uc_step.specs.Effects.{Unwind}
use Rattle.uc_ride.specs.UnwindingFalls.{left_in}
use Rattle.uc_ride.proofs.Leading.{Unwinding}
use Rattle.uc_ride.proofs.events.unwinds.Given as goal

-- it still unwinds, and what bounds all that was left at first bounds what is left
abbrev pub invariant-steps : goal.invariant-steps
invariant-steps l = record {
  source : Unwinding l.code l.fn.work Unwind l.work;
  below : (w : ℕ) → FallsBelow l.code w Unwind l.fn.work → FallsBelow l.code w Unwind l.work;
}

abbrev pub decreases-steps : goal.decreases-steps
decreases-steps l = left_in l.code l.work
