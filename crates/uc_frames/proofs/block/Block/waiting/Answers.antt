use Rattle.std.proofs.Common.{rules, ◌≡◌, length, reverse, take, arith}
use Rattle.std.proofs.lemmas.List.{length-reverse}
use Rattle.uc_frames.proofs.Extents.{operand_count}
use Rattle.uc_frames.proofs.block.Block.waiting.Goals as goal

pub returns : goal.returns
returns c =
    let x = c.self.inside.newest in
    let xs = reverse c.self.inside.older.items in
    let cs = c.self.inside.cells.items in
    let n : c.len.result ≡ length c.self.inside.older.items = search rules in
    rw (← c.self.view_is) (omega (arith, n, operand_count xs (take x.floor cs), length-reverse c.self.inside.older.items))
