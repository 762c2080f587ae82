use Rattle.std.proofs.Common.{◌≡◌, ◌∷◌, Some, None, length, reverse, sym, ap, ◌∙◌}
use Rattle.uc_machine.specs.Executions.{at_depth, values_cleared}
use Rattle.uc_frames.specs.Machine.{nought}
use Rattle.uc_frames.specs.Block.{contents}
use Rattle.uc_frames.proofs.Extents.{frame_cleared, frame_unchanged, within}
use Rattle.uc_frames.proofs.block.Block.clear.Goals as goal

pub clear_in-requires : goal.clear_in-requires
clear_in-requires c =
    let x = c.self.inside.newest in
    let xs = reverse c.self.inside.older.items in
    let cs = c.self.inside.cells.items in
    let q : at_depth (x ∷ xs) c.args.depth ≡ Some c.in-Some.extent = sym c.extent_at.ensures ∙ c.in-Some.is in
    let w = within (x ∷ xs) (length cs) c.args.depth c.in-Some.extent c.self.invariant q in
    (w.1, w.2)

pub returns-in-Some : goal.returns-in-Some
returns-in-Some c =
    let x = c.self.inside.newest in
    let xs = reverse c.self.inside.older.items in
    let cs = c.self.inside.cells.items in
    let q : at_depth (x ∷ xs) c.args.depth ≡ Some c.in-Some.extent = sym c.extent_at.ensures ∙ c.in-Some.is in
    rw (← c.self.view_is) (ap (contents x xs) c.clear_in.ensures.items ∙ frame_cleared x xs cs c.self.invariant c.args.depth c.in-Some.extent c.args.from c.args.count q)

pub returns-in_default : goal.returns-in_default
returns-in_default c =
    let x = c.self.inside.newest in
    let xs = reverse c.self.inside.older.items in
    let cs = c.self.inside.cells.items in
    let q : at_depth (x ∷ xs) c.args.depth ≡ None = sym c.extent_at.ensures ∙ c.in_default.is in
    rw (← c.self.view_is) (frame_unchanged x xs cs c.self.invariant c.args.depth (values_cleared c.args.from c.args.count nought) q)
