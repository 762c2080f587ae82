use Rattle.std.proofs.Common.{arith, length}
use Rattle.uc_frames.specs.Searches.{named}
use Rattle.uc_frames.proofs.Named.{none_count}
use Rattle.uc_frames.proofs.search.count_from.Goals as goal

pub returns : goal.returns
returns c =
    none_count c.args.rows.now c.loop-at.at c.loop-at.count (length (named c.args.rows.now c.args.number)) (omega (arith, c.loop-at-test.false)) c.loop-at.invariant.2
