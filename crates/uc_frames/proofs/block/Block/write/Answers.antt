use Rattle.std.proofs.Common.{◌≡◌, ◌∷◌, Some, None, length, reverse, sym, ap, ◌∙◌}
use Rattle.uc_machine.specs.Executions.{at_depth}
use Rattle.uc_frames.specs.Machine.{cell_written}
use Rattle.uc_frames.specs.Block.{contents}
use Rattle.uc_frames.proofs.Extents.{frame_written, frame_unchanged, within}
use Rattle.uc_frames.proofs.block.Block.write.Goals as goal

pub put_in-requires : goal.put_in-requires
put_in-requires c =
    let x = c.self.inside.newest in
    let xs = reverse c.self.inside.older.items in
    let cs = c.self.inside.cells.items in
    let q : at_depth (x ∷ xs) c.args.depth ≡ Some c.in-Some.extent = sym c.extent_at.ensures ∙ c.in-Some.is in
    let w = within (x ∷ xs) (length cs) c.args.depth c.in-Some.extent c.self.invariant q in
    (w.1, w.2)

pub returns-in-Some : goal.returns-in-Some
returns-in-Some c =
    let x = c.self.inside.newest in
    let xs = reverse c.self.inside.older.items in
    let cs = c.self.inside.cells.items in
    let q : at_depth (x ∷ xs) c.args.depth ≡ Some c.in-Some.extent = sym c.extent_at.ensures ∙ c.in-Some.is in
    rw (← c.self.view_is) (ap (contents x xs) c.put_in.ensures.items ∙ frame_written x xs cs c.self.invariant c.args.depth c.in-Some.extent c.args.at c.args.cell q)

pub returns-in_default : goal.returns-in_default
returns-in_default c =
    let x = c.self.inside.newest in
    let xs = reverse c.self.inside.older.items in
    let cs = c.self.inside.cells.items in
    let q : at_depth (x ∷ xs) c.args.depth ≡ None = sym c.extent_at.ensures ∙ c.in_default.is in
    rw (← c.self.view_is) (frame_unchanged x xs cs c.self.invariant c.args.depth (cell_written c.args.at c.args.cell) q)
