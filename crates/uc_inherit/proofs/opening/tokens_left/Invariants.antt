use Rattle.std.proofs.Common.{◌≡◌}
use Rattle.uc_inherit.specs.OpenedTokens.{picked, left_at}
use Rattle.uc_inherit.proofs.opening.tokens_left.Given as goal

abbrev pub invariant-loop-index : goal.invariant-loop-index
invariant-loop-index l = l.left.items ≡ picked (left_at l.tokens) l.index
