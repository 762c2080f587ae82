use Rattle.std.proofs.Common.{rules, ◌≡◌, ◌-◌, length, reverse, arith}
use Rattle.uc_frames.proofs.Extents.{one_replaced}
use Rattle.uc_frames.proofs.block.Block.replace.Goals as goal

pub returns-then-length-self-gt0-clause-ok : goal.returns-then-length-self-gt0-clause-ok
returns-then-length-self-gt0-clause-ok c =
    let x = c.self.inside.newest in
    let xs = reverse c.self.inside.older.items in
    let cs = c.self.inside.cells.items in
    let n : c.len-length.result ≡ length cs = search rules in
    rw (← c.self.view_is) (one_replaced x xs cs c.self.invariant (c.len-length.result - 1) c.args.cell (omega (arith, n, c.if-length-self-gt0.true)) (omega (arith, n, c.if-length-self-gt0.true)))
