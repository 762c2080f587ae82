use Rattle.std.proofs.Common.{◌≡◌, ◌<◌, true, false, ap, sym, ◌∙◌, length, rules, arith}
use Rattle.std.specs.List.{list_all}
use Rattle.uc_tree.specs.Capped.{capped}
use Rattle.uc_tree.specs.Rows.{row_at, row_cells}
use Rattle.uc_layout.specs.ContainmentProgress.{flag_at}
use Rattle.uc_layout.specs.CellTables.{cell_at}
use Rattle.uc_layout.specs.SettledClasses.{held_settled}
use Rattle.uc_layout.proofs.CellTablesLemmas.{row_is}
use Rattle.uc_layout.proofs.SettledLemmas.{settled_more}
use Rattle.uc_layout.proofs.settle.settle.Goals as goal

pub returns-then-are_settled : goal.returns-then-are_settled
returns-then-are_settled c =
    let flags = c.args.flags.now in
    let cells = c.args.cells.now in
    let place = c.args.place in
    let row : row_at c.args.rows.now place ≡ c.index-rows-place.result = row_is c.args.rows.now place c.index-rows-place.result c.requires.inside c.index-rows-place.is in
    let tested : list_all (held_settled (flag_at flags)) (c.index-rows-place.result).held ≡ true = search rules in
    let held = ap (λ r. list_all (held_settled (flag_at flags)) r.held) row ∙ tested in
    let new : flag_at flags place ≡ false = search rules in
    let inside : place < length flags = let a = c.requires.inside in let b = c.requires.full in omega (arith, a, b) in
    let room : place < length cells = let a = c.requires.inside in let b = c.requires.room in omega (arith, a, b) in
    let is : c.row_cells.result ≡ capped (row_cells (cell_at cells) (row_at c.args.rows.now place)) = c.row_cells.ensures ∙ ap (λ r. capped (row_cells (cell_at cells) r)) (sym row) in
    record { settled = settled_more c.args.rows.now flags cells place c.row_cells.result inside room new c.requires.settled held is }
