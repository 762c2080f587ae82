use Rattle.std.proofs.Common.{◌≡◌, ◌+◌, ◌∙◌, ap, slice_set, to_z, of_z, w64}
use Rattle.std.proofs.Math.Facts.{to_z-of_z}
use Rattle.uc_frames.specs.declared.cell.Cell.TheVariants.{Number}
use Rattle.uc_frames.specs.Machine.{stored}
use Rattle.uc_frames.proofs.Extents.{cell_put, cell_not_put}
use Rattle.uc_frames.proofs.block.put_number_in.Goals as goal

pub returns-then-at-extent-clause-items : goal.returns-then-at-extent-clause-items
returns-then-at-extent-clause-items c =
    let e = c.args.extent in
    let cs = c.args.cells.now.items in
    let v = c.index_mut.result.now in
    let n : to_z w64 (of_z w64 c.args.number) ≡ c.args.number = to_z-of_z c.ranges.number in
    ap (slice_set cs (e.base + c.args.at)) (c.write_over.ensures ∙ ap (λ z. stored (Number z) v) n) ∙ cell_put e cs c.requires.0 c.requires.1 c.args.at (Number c.args.number) v c.if-at-extent.true c.index_mut.ensures.value

pub returns-else-at-extent-clause-items : goal.returns-else-at-extent-clause-items
returns-else-at-extent-clause-items c = cell_not_put c.args.extent c.args.cells.now.items c.requires.0 c.requires.1 c.args.at (Number c.args.number) c.if-at-extent.false
