use Rattle.std.proofs.Common.{◌≡◌}
use Rattle.uc_inherit.specs.OpenedTokens.{picked, base_noted}
use Rattle.uc_inherit.proofs.opening.bases_of.Given as goal

abbrev pub invariant-loop-at : goal.invariant-loop-at
invariant-loop-at l = l.bases.items ≡ picked (base_noted l.tokens) l.at
