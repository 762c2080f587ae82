use Rattle.std.proofs.Common.{rules, to_z, of_z, w64, ◌≡◌, ◌<◌, ◌∷◌, Some, length, reverse, refl, ap, ◌∙◌, arith}
use Rattle.std.proofs.Math.Facts.{to_z-of_z}
use Rattle.std.proofs.lemmas.Option.{slice_get_read}
use Rattle.uc_machine.specs.Executions.{at_depth}
use Rattle.uc_frames.specs.declared.cell.Cell.TheVariants.{Number}
use Rattle.uc_frames.specs.Block.{contents, frame_of, with_frame}
use Rattle.uc_frames.specs.Machine.{cell_written}
use Rattle.uc_frames.proofs.Depths.{waiting_at}
use Rattle.uc_frames.proofs.Extents.{frame_written, within}
use Rattle.uc_frames.proofs.block.Block.write_behind.Goals as goal

pub put_number_in-requires : goal.put_number_in-requires
put_number_in-requires c =
    let b = c.self.inside in
    let xs = b.older.items in
    let n : c.len.result ≡ length xs = search rules in
    let l : c.args.depth < length xs = omega (arith, n, c.if-place-len.true) in
    let q : at_depth (b.newest ∷ reverse xs) c.args.depth ≡ Some c.index-extent.result.now = waiting_at b.newest xs c.args.depth l ∙ slice_get_read xs (length xs) c.args.depth c.index-extent.result.now refl l c.index-extent.ensures in
    let w = within (b.newest ∷ reverse xs) (length b.cells.items) c.args.depth c.index-extent.result.now c.self.invariant q in
    (w.1, w.2)

pub returns-then-place-len : goal.returns-then-place-len
returns-then-place-len c =
    let b = c.self.inside in
    let xs = b.older.items in
    let cs = b.cells.items in
    let n : c.len.result ≡ length xs = search rules in
    let l : c.args.depth < length xs = omega (arith, n, c.if-place-len.true) in
    let e = c.index-extent.result.now in
    let q : at_depth (b.newest ∷ reverse xs) c.args.depth ≡ Some e = waiting_at b.newest xs c.args.depth l ∙ slice_get_read xs (length xs) c.args.depth e refl l c.index-extent.ensures in
    let m : to_z w64 (of_z w64 c.args.number) ≡ c.args.number = to_z-of_z c.ranges.number in
    rw (← c.self.view_is) (ap (contents b.newest (reverse xs)) (c.put_number_in.ensures.items ∙ ap (λ z. with_frame e (cell_written c.args.at (Number z) (frame_of e cs)) cs) m) ∙ frame_written b.newest (reverse xs) cs c.self.invariant c.args.depth e c.args.at (Number c.args.number) q)
