use Rattle.std.proofs.Common.{arith}
use Rattle.uc_code.specs.OpenRows.{Bare}
use Rattle.uc_code.proofs.draft.Draft.new.Goals as goal

pub invariant_of-result : goal.invariant_of-result
invariant_of-result c = rw (c.new.ensures.items, c.new-2.ensures.items, c.new-3.ensures.items) (omega arith, record { past = omega arith; few = omega arith; nested = Bare; behind = tt })
