use Rattle.std.proofs.Common.{rules, ◌≡◌, ◌<◌, ◌∷◌, ◌∙◌, length, reverse, Some, refl, sym, ap, arith}
use Rattle.std.specs.Prelude.{slice_index_or}
use Rattle.std.proofs.lemmas.Option.{slice_get_read}
use Rattle.uc_machine.specs.Executions.{at_depth, list_in}
use Rattle.uc_frames.specs.CellNumbers.{number_within}
use Rattle.uc_frames.specs.Machine.{nought}
use Rattle.uc_frames.proofs.Depths.{waiting_at}
use Rattle.uc_frames.proofs.Extents.{frame_at, within}
use Rattle.uc_frames.proofs.block.Block.number_behind.Goals as goal

pub number_at-requires : goal.number_at-requires
number_at-requires c =
    let b = c.self.inside in
    let xs = b.older.items in
    let n : c.len.result ≡ length xs = search rules in
    let l : c.args.depth < length xs = omega (arith, n, c.if-place-len.true) in
    let q : at_depth (b.newest ∷ reverse xs) c.args.depth ≡ Some c.index.result.now = waiting_at b.newest xs c.args.depth l ∙ slice_get_read xs (length xs) c.args.depth c.index.result.now refl l c.index.ensures in
    let w = within (b.newest ∷ reverse xs) (length b.cells.items) c.args.depth c.index.result.now c.self.invariant q in
    (w.1, w.2)

pub returns-then-place-len : goal.returns-then-place-len
returns-then-place-len c =
    let b = c.self.inside in
    let xs = b.older.items in
    let n : c.len.result ≡ length xs = search rules in
    let l : c.args.depth < length xs = omega (arith, n, c.if-place-len.true) in
    let q : at_depth (b.newest ∷ reverse xs) c.args.depth ≡ Some c.index.result.now = waiting_at b.newest xs c.args.depth l ∙ slice_get_read xs (length xs) c.args.depth c.index.result.now refl l c.index.ensures in
    rw (← c.self.view_is) (c.number_at.ensures ∙ ap (λ o. number_within (slice_index_or (list_in o) c.args.at nought)) (sym (frame_at (b.newest ∷ reverse xs) b.cells.items c.args.depth c.index.result.now c.self.invariant q)))
