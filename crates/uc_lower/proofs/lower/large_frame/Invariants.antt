use Rattle.uc_lower.specs.Refusals.{FitsBefore}
use Rattle.uc_lower.proofs.lower.large_frame.Given as goal

abbrev pub invariant-loop-number : goal.invariant-loop-number
invariant-loop-number l = FitsBefore l.sizes l.number
