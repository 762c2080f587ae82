use Rattle.std.proofs.Common.{◌≡◌, ◌∷◌, Some, None, length, reverse, sym, ap, subst, ◌∙◌}
use Rattle.std.specs.Prelude.{slice_index_or, MatchOption}
use Rattle.uc_machine.specs.Executions.{at_depth, list_in}
use Rattle.uc_frames.specs.Machine.{nought}
use Rattle.uc_frames.proofs.Extents.{frame_at, no_frame, within}
use Rattle.uc_frames.proofs.block.Block.cell.Goals as goal

pub place_in-requires : goal.place_in-requires
place_in-requires c =
    let x = c.self.inside.newest in
    let xs = reverse c.self.inside.older.items in
    let cs = c.self.inside.cells.items in
    let q : at_depth (x ∷ xs) c.args.depth ≡ Some c.in-Some.extent = sym c.extent_at.ensures ∙ c.in-Some.is in
    let w = within (x ∷ xs) (length cs) c.args.depth c.in-Some.extent c.self.invariant q in
    (w.1, w.2)

pub returns-in-None : goal.returns-in-None
returns-in-None c =
    let x = c.self.inside.newest in
    let xs = reverse c.self.inside.older.items in
    let cs = c.self.inside.cells.items in
    let q : at_depth (x ∷ xs) c.args.depth ≡ None = sym c.extent_at.ensures ∙ c.in-None.is in
    rw (← c.self.view_is) (ap (λ o. slice_index_or (list_in o) c.args.at nought) (no_frame (x ∷ xs) cs c.args.depth q))

pub returns-in-Some : goal.returns-in-Some
returns-in-Some c =
    let x = c.self.inside.newest in
    let xs = reverse c.self.inside.older.items in
    let cs = c.self.inside.cells.items in
    let q : at_depth (x ∷ xs) c.args.depth ≡ Some c.in-Some.extent = sym c.extent_at.ensures ∙ c.in-Some.is in
    rw (← c.self.view_is) (subst (λ o. MatchOption c.place_in.result (slice_index_or (list_in o) c.args.at nought ≡ nought) (λ k. slice_index_or (list_in o) c.args.at nought ≡ k.now)) (sym (frame_at (x ∷ xs) cs c.args.depth c.in-Some.extent c.self.invariant q)) c.place_in.ensures)
