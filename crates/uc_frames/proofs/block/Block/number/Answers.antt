use Rattle.std.proofs.Common.{rules, ◌≡◌, ◌∷◌, ◌∙◌, length, reverse, Some, sym, ap, arith}
use Rattle.std.specs.Prelude.{slice_index_or}
use Rattle.uc_machine.specs.Executions.{at_depth, list_in}
use Rattle.uc_frames.specs.CellNumbers.{number_within}
use Rattle.uc_frames.specs.Machine.{nought}
use Rattle.uc_frames.proofs.Depths.{running_at}
use Rattle.uc_frames.proofs.Extents.{frame_at}
use Rattle.uc_frames.proofs.block.Block.number.Goals as goal

pub returns-then-depth-len : goal.returns-then-depth-len
returns-then-depth-len c =
    let b = c.self.inside in
    let xs = reverse b.older.items in
    let n : c.len.result ≡ length b.older.items = search rules in
    let q : at_depth (b.newest ∷ xs) c.args.depth ≡ Some b.newest = running_at b.newest b.older.items c.args.depth (omega (arith, n, c.if-depth-len.true)) in
    rw (← c.self.view_is) (c.number_at.ensures ∙ ap (λ o. number_within (slice_index_or (list_in o) c.args.at nought)) (sym (frame_at (b.newest ∷ xs) b.cells.items c.args.depth b.newest c.self.invariant q)))
