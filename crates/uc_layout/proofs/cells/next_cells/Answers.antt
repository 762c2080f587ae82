use Rattle.std.proofs.Common.{◌≡◌, ◌∷◌, [], ◌++◌, true, false, ◌∙◌, rules}
use Rattle.uc_tree.specs.Rows.{row_at}
use Rattle.uc_layout.specs.ContainmentProgress.{flag_at}
use Rattle.uc_layout.specs.CellTables.{next_at}
use Rattle.uc_layout.proofs.CellTablesLemmas.{row_is, follows_more}
use Rattle.uc_layout.proofs.cells.next_cells.Goals as goal
use Rattle.uc_layout.proofs.cells.next_cells.Goals.{then-circles-place, else-circles-place}

pub loop-place-preserved : goal.loop-place-preserved
loop-place-preserved c =
    let row : row_at c.args.rows.now c.loop-place.place ≡ c.index-rows-place.result = row_is c.args.rows.now c.loop-place.place c.index-rows-place.result c.loop-place-test.true c.index-rows-place.is in
    let is : c.if-circles-place.sum ≡ next_at c.args.rows.now c.args.circles.now c.args.cells.now c.loop-place.place = elim c.if-circles-place.branch [
      | then-circles-place w ↦ (let t : flag_at c.args.circles.now c.loop-place.place ≡ true = search rules in rw t w.sum-is)
      | else-circles-place w ↦ (let t : flag_at c.args.circles.now c.loop-place.place ≡ false = search rules in rw (t, row) (w.sum-is ∙ w.row_cells-sum.ensures))
    ] in
    let items : c.push.new.self.items ≡ c.loop-place.next.items ++ c.if-circles-place.sum ∷ [] = search rules in
    (search rules, rw items (follows_more c.args.rows.now c.args.circles.now c.args.cells.now c.loop-place.next.items c.loop-place.place c.if-circles-place.sum c.loop-place.invariant.0 c.loop-place.invariant.1 is))
