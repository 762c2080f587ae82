use Rattle.std.proofs.Common.{◌≡◌, ◌++◌, ◌∷◌, [], ap, ◌∙◌, rules}
use Rattle.uc_tree.specs.Cells.{rows_of}
use Rattle.uc_tree.specs.Objects.{tallest}
use Rattle.uc_tree.specs.Rows.{row_at}
use Rattle.uc_implicit.specs.Heights.{height_at}
use Rattle.uc_implicit.proofs.Deep.{next_more}
use Rattle.uc_implicit.proofs.heights.next_heights.Goals as goal

pub loop-place-preserved : goal.loop-place-preserved
loop-place-preserved c =
    let xs = c.args.heights.now in
    let is : c.tallest.result ≡ tallest (height_at xs) (row_at (rows_of c.args.sizes.now) c.loop-place.place).held = c.tallest.ensures.height ∙ ap (tallest (height_at xs)) c.held_by_class.ensures in
    let items : c.push.new.self.items ≡ c.loop-place.next.items ++ c.tallest.result ∷ [] = search rules in
    (search rules, rw items (next_more (rows_of c.args.sizes.now) xs c.loop-place.next.items c.loop-place.place c.tallest.result c.loop-place.invariant.0 c.loop-place.invariant.1 is))
