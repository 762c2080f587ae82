use Rattle.std.proofs.Common.{rules, to_z, of_z, w64, ◌≡◌, ◌∷◌, Some, length, reverse, ap, ◌∙◌, arith}
use Rattle.std.proofs.Math.Facts.{to_z-of_z}
use Rattle.uc_machine.specs.Executions.{at_depth}
use Rattle.uc_frames.specs.declared.cell.Cell.TheVariants.{Number}
use Rattle.uc_frames.specs.Block.{contents, frame_of, with_frame}
use Rattle.uc_frames.specs.Machine.{cell_written}
use Rattle.uc_frames.proofs.Depths.{running_at}
use Rattle.uc_frames.proofs.Extents.{frame_written}
use Rattle.uc_frames.proofs.block.Block.write_newest.Goals as goal

pub returns-then-depth-len : goal.returns-then-depth-len
returns-then-depth-len c =
    let b = c.self.inside in
    let x = b.newest in
    let xs = reverse b.older.items in
    let cs = b.cells.items in
    let n : c.len.result ≡ length b.older.items = search rules in
    let q : at_depth (x ∷ xs) c.args.depth ≡ Some x = running_at x b.older.items c.args.depth (omega (arith, n, c.if-depth-len.true)) in
    let m : to_z w64 (of_z w64 c.args.number) ≡ c.args.number = to_z-of_z c.ranges.number in
    rw (← c.self.view_is) (ap (contents x xs) (c.put_number_in.ensures.items ∙ ap (λ z. with_frame x (cell_written c.args.at (Number z) (frame_of x cs)) cs) m) ∙ frame_written x xs cs c.self.invariant c.args.depth x c.args.at (Number c.args.number) q)
