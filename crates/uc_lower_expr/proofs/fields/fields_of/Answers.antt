use Rattle.std.proofs.Common.{rules, ◌≡◌, ap, refl, subst, ◌∙◌}
use Rattle.uc_tree.specs.Programs.{Class}
use Rattle.uc_tree.specs.Rows.{row_at}
use Rattle.uc_tree.specs.Cells.{leading_cells, rows_of}
use Rattle.uc_tree.specs.Objects.{fields_of}
use Rattle.uc_lower_expr.specs.declared.fields.FieldTable.{FieldTable}
use Rattle.uc_lower_expr.specs.FieldTables.{Notes}
use Rattle.uc_lower_expr.proofs.FieldLemmas.{are_fields}
use Rattle.uc_lower_expr.proofs.Noting.{no_names}
use Rattle.uc_lower_expr.proofs.fields.fields_of.Goals as goal

pub returns : goal.returns
returns c =
    let p = c.args.sizes.now in
    let k = c.args.class.now in
    let old : FieldTable = record { names = c.in_ok-no_places.field-0; fields = c.new.result; cells = c.from.result; conditions = 0 } in
    let new = c.note_members.new.table in
    let wide : c.from.result ≡ c.leading_cells.result = search rules in
    let cells : c.from.result ≡ leading_cells k.kind = wide ∙ c.leading_cells.ensures ∙ ap (λ (x : Class). leading_cells x.kind) c.class.view_is in
    let members : c.deref.result.now ≡ k.members = c.deref.ensures.value ∙ ap (λ (x : Class). x.members) c.class.view_is in
    let notes : Notes p (row_at (rows_of p) c.args.place).held (fields_of k.members) old new =
    subst (λ hs. Notes p hs (fields_of k.members) old new) c.held_by_class.ensures (subst (λ ms. Notes p c.held_by_class.result.now (fields_of ms) old new) members c.in_ok-note_members.ensures) in
    are_fields p c.requires.fit c.args.place k c.requires.there old new c.new.ensures.items cells refl (λ names l. no_names names c.in_ok-no_places.field-0 l c.in_ok-no_places.ensures) notes
