use Rattle.std.proofs.Common.{rules, ◌≡◌, ◌+◌, ◌++◌, ◌∷◌, [], pos, length, get_or, ap, sym, subst, ◌∙◌}
use Rattle.uc_tree.specs.declared.rows.FieldLayout.{FieldLayout}
use Rattle.uc_tree.specs.Capped.{capped}
use Rattle.uc_tree.specs.Source.{Literal}
use Rattle.uc_tree.specs.Cells.{class_cells}
use Rattle.uc_tree.specs.Rows.{held_cells}
use Rattle.uc_layout.specs.Places.{IsPlaces}
use Rattle.uc_lower_expr.specs.FieldTables.{conditions_by, length_by, one_scalar}
use Rattle.uc_lower_expr.proofs.Noting.{notes_one, sum_capped}
use Rattle.uc_lower_expr.proofs.fields.note_field.Goals as goal

pub returns-in_ok-push-in-Ok : goal.returns-in_ok-push-in-Ok
returns-in_ok-push-in-Ok c =
    let p = c.args.sizes.now in
    let count = length c.args.table.now.fields.items in
    let d = c.args.declarator.now in
    let place : c.len-place.result ≡ count = search rules in
    let what : c.held_at-what.result ≡ get_or c.args.held.now count one_scalar = c.held_at-what.ensures ∙ ap (λ k. get_or c.args.held.now k one_scalar) place in
    let cell : c.in-Ok.cell ≡ c.args.table.now.cells = search rules in
    let sum : c.saturating_add-table.result ≡ capped (c.args.table.now.cells + c.cells_of_held.result) = search rules in
    let cells : c.saturating_add-table.result ≡ capped (c.args.table.now.cells + held_cells (class_cells p) (get_or c.args.held.now count one_scalar)) = sum_capped c.args.table.now.cells c.cells_of_held.result (held_cells (class_cells p) (get_or c.args.held.now count one_scalar)) c.saturating_add-table.result (c.cells_of_held.ensures ∙ ap (λ (h : FieldLayout). capped (held_cells (class_cells p) h)) what) sum in
    let more : c.saturating_add-table-in-Ok.result ≡ capped (c.args.table.now.conditions + c.conditions_in.result) = search rules in
    let counts : c.conditions_in.result ≡ conditions_by c.args.base.now (get_or c.args.held.now count one_scalar).count = c.conditions_in.ensures ∙ ap (λ (h : FieldLayout). conditions_by c.args.base.now h.count) what in
    let told = c.value_of_base-value.ensures.tells (Literal (pos 0)) in
    notes_one p c.args.held.now (record { base = c.args.base.now; declarator = d }) _ c.args.table.now (record { names = c.note_place.new.places; fields = c.push.new.self; cells = c.saturating_add-table.result; conditions = c.saturating_add-table-in-Ok.result }) c.requires
    (λ names l was. subst (λ n. IsPlaces (names ++ n ∷ []) c.note_place.new.places) (ap (λ x. x.name) c.declarator.view_is) (c.in_ok-note_place-in-Ok.ensures names (l ∙ sym place) was))
    c.in_ok-push-in-Ok.ensures.items
    (record {
      cell = cell;
      by_ref = sym (ap (λ x. x.by_ref) c.declarator.view_is);
      shape = told.shape;
      made = c.made_by.ensures;
      class = told.class;
      numbered = told.numbered;
      event = told.event;
      len = c.length_of.ensures ∙ ap (λ (h : FieldLayout). length_by d.len h.count) what;
      number = c.is_number-number.ensures;
      standing = c.held_as.ensures;
    })
    cells
    c.condition_of.ensures
    (more ∙ ap (λ n. capped (c.args.table.now.conditions + n)) counts)
