use Rattle.uc_frames.proofs.Named.{outer_near, outer_far}
use Rattle.uc_frames.proofs.search.outer_of.Goals as goal

pub returns-then-outer-at-clause-outer : goal.returns-then-outer-at-clause-outer
returns-then-outer-at-clause-outer c =
    outer_near c.args.rows.now c.args.at _ c.requires.first c.requires.near c.if-outer-at.true

pub returns-else-outer-at-clause-outer : goal.returns-else-outer-at-clause-outer
returns-else-outer-at-clause-outer c =
    outer_far c.args.rows.now c.args.at _ c.requires.first c.requires.near c.if-outer-at.false
