use Rattle.std.proofs.Common.{arith, sym}
use Rattle.uc_frames.proofs.Extents.{cell_read, cell_past}
use Rattle.uc_frames.proofs.block.place_in.Goals as goal

pub returns-then-at-extent : goal.returns-then-at-extent
returns-then-at-extent c =
    sym (cell_read c.args.extent c.args.cells.now.items c.requires.0 c.requires.1 c.args.at c.index.result.now (omega (arith, c.if-at-extent.true)) c.index.ensures)

pub returns-else-at-extent : goal.returns-else-at-extent
returns-else-at-extent c = sym (cell_past c.args.extent c.args.cells.now.items c.requires.0 c.requires.1 c.args.at (omega (arith, c.if-at-extent.false)))
