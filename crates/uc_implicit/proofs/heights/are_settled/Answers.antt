use Rattle.std.proofs.Common.{◌≡◌, ap, ◌∙◌}
use Rattle.uc_tree.specs.Cells.{rows_of}
use Rattle.uc_tree.specs.Objects.{tallest}
use Rattle.uc_tree.specs.Rows.{row_at}
use Rattle.uc_implicit.specs.Heights.{height_at}
use Rattle.uc_implicit.proofs.Deep.{same_more}
use Rattle.uc_implicit.proofs.heights.are_settled.Goals as goal

pub loop-place-preserved : goal.loop-place-preserved
loop-place-preserved c =
    let xs = c.args.heights.now in
    let is : height_at xs c.loop-place.place ≡ tallest (height_at xs) (row_at (rows_of c.args.sizes.now) c.loop-place.place).held = c.if-heights-place.false ∙ c.tallest.ensures.height ∙ ap (tallest (height_at xs)) c.held_by_class.ensures in
    same_more (rows_of c.args.sizes.now) xs c.loop-place.place c.loop-place.invariant is
