use Rattle.std.proofs.Common.{◌≡◌}
use Rattle.uc_inherit.specs.OpenedTokens.{picked, virtual_noted}
use Rattle.uc_inherit.proofs.opening.virtuals_of.Given as goal

abbrev pub invariant-loop-at : goal.invariant-loop-at
invariant-loop-at l = l.virtuals.items ≡ picked (virtual_noted l.tokens) l.at
