use Rattle.std.proofs.Common.{◌≡◌, ◌+◌, ◌∙◌, ap, sym, slice_set}
use Rattle.std.specs.Prelude.{if◌then◌else◌}
use Rattle.uc_frames.specs.Machine.{stored}
use Rattle.std.proofs.lemmas.List.{set-get_or}
use Rattle.uc_frames.proofs.Extents.{cell_put, cell_not_put}
use Rattle.uc_frames.proofs.block.put_in.Goals as goal

pub returns-then-is_writable-clause-items : goal.returns-then-is_writable-clause-items
returns-then-is_writable-clause-items c =
    let e = c.args.extent in
    let cs = c.args.cells.now.items in
    let v = c.index.result.now in
    let q : stored c.args.cell v ≡ c.args.cell = c.is_writable.ensures c.args.cell ∙ ap (λ b. if b then c.args.cell else v) c.if-is_writable.true in
    ap (slice_set cs (e.base + c.args.at)) (sym q) ∙ cell_put e cs c.requires.0 c.requires.1 c.args.at c.args.cell v c.if-at-extent.true c.index.ensures

pub returns-else-is_writable-clause-items : goal.returns-else-is_writable-clause-items
returns-else-is_writable-clause-items c =
    let e = c.args.extent in
    let cs = c.args.cells.now.items in
    let v = c.index.result.now in
    let q : stored c.args.cell v ≡ v = c.is_writable.ensures c.args.cell ∙ ap (λ b. if b then c.args.cell else v) c.if-is_writable.false in
    sym (set-get_or cs (e.base + c.args.at) v) ∙ ap (slice_set cs (e.base + c.args.at)) (sym c.index.ensures ∙ sym q) ∙ cell_put e cs c.requires.0 c.requires.1 c.args.at c.args.cell v c.if-at-extent.true c.index.ensures

pub returns-else-at-extent-clause-items : goal.returns-else-at-extent-clause-items
returns-else-at-extent-clause-items c = cell_not_put c.args.extent c.args.cells.now.items c.requires.0 c.requires.1 c.args.at c.args.cell c.if-at-extent.false
