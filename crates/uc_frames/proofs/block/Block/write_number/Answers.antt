use Rattle.std.proofs.Common.{to_z, of_z, w64, ◌≡◌, ◌∷◌, Some, None, length, reverse, sym, ap, ◌∙◌}
use Rattle.std.proofs.Math.Facts.{to_z-of_z}
use Rattle.uc_machine.specs.Executions.{at_depth}
use Rattle.uc_frames.specs.declared.cell.Cell.TheVariants.{Number}
use Rattle.uc_frames.specs.Machine.{cell_written}
use Rattle.uc_frames.specs.Block.{contents, frame_of, with_frame}
use Rattle.uc_frames.proofs.Extents.{frame_written, frame_unchanged, within}
use Rattle.uc_frames.proofs.block.Block.write_number.Goals as goal

pub put_number_in-requires : goal.put_number_in-requires
put_number_in-requires c =
    let x = c.self.inside.newest in
    let xs = reverse c.self.inside.older.items in
    let cs = c.self.inside.cells.items in
    let q : at_depth (x ∷ xs) c.args.depth ≡ Some c.in-Some.extent = sym c.extent_at.ensures ∙ c.in-Some.is in
    let w = within (x ∷ xs) (length cs) c.args.depth c.in-Some.extent c.self.invariant q in
    (w.1, w.2)

pub returns-in-Some : goal.returns-in-Some
returns-in-Some c =
    let x = c.self.inside.newest in
    let xs = reverse c.self.inside.older.items in
    let cs = c.self.inside.cells.items in
    let q : at_depth (x ∷ xs) c.args.depth ≡ Some c.in-Some.extent = sym c.extent_at.ensures ∙ c.in-Some.is in
    let e = c.in-Some.extent in
    let n : to_z w64 (of_z w64 c.args.number) ≡ c.args.number = to_z-of_z c.ranges.number in
    rw (← c.self.view_is) (ap (contents x xs) (c.put_number_in.ensures.items ∙ ap (λ z. with_frame e (cell_written c.args.at (Number z) (frame_of e cs)) cs) n) ∙ frame_written x xs cs c.self.invariant c.args.depth c.in-Some.extent c.args.at (Number c.args.number) q)

pub returns-in_default : goal.returns-in_default
returns-in_default c =
    let x = c.self.inside.newest in
    let xs = reverse c.self.inside.older.items in
    let cs = c.self.inside.cells.items in
    let q : at_depth (x ∷ xs) c.args.depth ≡ None = sym c.extent_at.ensures ∙ c.in_default.is in
    rw (← c.self.view_is) (frame_unchanged x xs cs c.self.invariant c.args.depth (cell_written c.args.at (Number c.args.number)) q)
