use Rattle.std.proofs.Common.{rules, ◌≡◌, ◌-◌, length, reverse, arith}
use Rattle.uc_frames.proofs.Extents.{top_at}
use Rattle.uc_frames.proofs.block.Block.below.Goals as goal

pub returns-then-count-length : goal.returns-then-count-length
returns-then-count-length c =
    let x = c.self.inside.newest in
    let xs = reverse c.self.inside.older.items in
    let cs = c.self.inside.cells.items in
    let n : c.len-length.result ≡ length cs = search rules in
    rw (← c.self.view_is) (top_at cs x.start c.args.count (c.len-length.result - 1 - c.args.count) c.index.result.now c.self.invariant.2 (omega (arith, n, c.if-count-length.true)) (omega (arith, n)) c.index.ensures)
