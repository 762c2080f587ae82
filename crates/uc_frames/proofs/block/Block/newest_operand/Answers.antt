use Rattle.std.proofs.Common.{rules, ◌≡◌, ◌-◌, length, reverse, sym, arith}
use Rattle.uc_frames.proofs.Extents.{top_at}
use Rattle.uc_frames.proofs.block.Block.newest_operand.Goals as goal

pub returns-then-length-self-gt0 : goal.returns-then-length-self-gt0
returns-then-length-self-gt0 c =
    let x = c.self.inside.newest in
    let xs = reverse c.self.inside.older.items in
    let cs = c.self.inside.cells.items in
    let n : c.len-length.result ≡ length cs = search rules in
    rw (← c.self.view_is) (sym (top_at cs x.start 0 (c.len-length.result - 1) c.index.result.now c.self.invariant.2 (omega (arith, n, c.if-length-self-gt0.true)) (omega (arith, n)) c.index.ensures))
