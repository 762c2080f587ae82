use Rattle.std.proofs.Common.{◌≡◌, ◌∙◌, ap, sym, List, []}
use Rattle.uc_tree.specs.declared.rows.FieldLayout.{FieldLayout}
use Rattle.uc_tree.specs.Rows.{ClassLayout, row_at}
use Rattle.uc_layout.proofs.CellTablesLemmas.{row_is}
use Rattle.uc_layout.proofs.DepthsLemmas.{row_past}
use Rattle.uc_layout.proofs.sizes.held_at.Goals as goal

pub returns-in-Some : goal.returns-in-Some
returns-in-Some c =
    let found : row_at c.args.rows.now c.args.place ≡ c.in-Some.row.now = row_is c.args.rows.now c.args.place c.in-Some.row.now c.in-Some.ensures.lookup.3.0 (c.in-Some.ensures.lookup.1) in
    c.deref.ensures.value ∙ ap (λ r. r.held) (c.row.view_is ∙ sym found)

pub returns-in-None : goal.returns-in-None
returns-in-None c = sym (ap (λ r. r.held) (row_past c.args.rows.now c.args.place c.in-None.ensures.lookup.3))
