use Rattle.std.proofs.Common.{arith, sym, ◌∙◌}
use Rattle.uc_frames.proofs.Named.{none_first, sought_found}
use Rattle.uc_frames.proofs.search.first_from.Goals as goal

pub returns-then-is_sought_at : goal.returns-then-is_sought_at
returns-then-is_sought_at c =
    sym (sought_found c.args.sought c.args.rows.now c.loop-at.at c.is_sought_at.result c.is_sought_at.ensures c.if-is_sought_at.true c.loop-at-test.true c.loop-at.invariant.0) ∙ c.loop-at.invariant.1

pub returns : goal.returns
returns c =
    none_first c.args.sought c.args.rows.now c.loop-at.at (omega (arith, c.loop-at-test.false)) ∙ c.loop-at.invariant.1
