use Rattle.std.proofs.Common.{◌≡◌, ◌∷◌, Some, None, length, reverse, sym, ap, ◌∙◌}
use Rattle.std.specs.Prelude.{slice_index_or}
use Rattle.uc_machine.specs.Executions.{at_depth, list_in}
use Rattle.uc_frames.specs.CellNumbers.{number_within}
use Rattle.uc_frames.specs.Machine.{nought}
use Rattle.uc_frames.proofs.Extents.{frame_at, no_frame, within}
use Rattle.uc_frames.proofs.block.Block.number_of.Goals as goal

pub number_at-requires : goal.number_at-requires
number_at-requires c =
    let x = c.self.inside.newest in
    let xs = reverse c.self.inside.older.items in
    let cs = c.self.inside.cells.items in
    let q : at_depth (x ∷ xs) c.args.depth ≡ Some c.in-Some.extent = sym c.extent_at.ensures ∙ c.in-Some.is in
    let w = within (x ∷ xs) (length cs) c.args.depth c.in-Some.extent c.self.invariant q in
    (w.1, w.2)

pub returns-in-None : goal.returns-in-None
returns-in-None c =
    let x = c.self.inside.newest in
    let xs = reverse c.self.inside.older.items in
    let cs = c.self.inside.cells.items in
    let q : at_depth (x ∷ xs) c.args.depth ≡ None = sym c.extent_at.ensures ∙ c.in-None.is in
    rw (← c.self.view_is) (ap (λ o. number_within (slice_index_or (list_in o) c.args.at nought)) (sym (no_frame (x ∷ xs) cs c.args.depth q)))

pub returns-in-Some : goal.returns-in-Some
returns-in-Some c =
    let x = c.self.inside.newest in
    let xs = reverse c.self.inside.older.items in
    let cs = c.self.inside.cells.items in
    let q : at_depth (x ∷ xs) c.args.depth ≡ Some c.in-Some.extent = sym c.extent_at.ensures ∙ c.in-Some.is in
    rw (← c.self.view_is) (c.number_at.ensures ∙ ap (λ o. number_within (slice_index_or (list_in o) c.args.at nought)) (sym (frame_at (x ∷ xs) cs c.args.depth c.in-Some.extent c.self.invariant q)))
