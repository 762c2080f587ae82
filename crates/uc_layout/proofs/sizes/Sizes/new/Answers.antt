use Rattle.std.proofs.Common.{◌≡◌, length, map, ap, subst, ◌∙◌}
use Rattle.uc_tree.specs.Constants.{constants_of, value_of_name}
use Rattle.uc_tree.specs.Cells.{classes_of}
use Rattle.uc_layout.specs.Values.{value_at}
use Rattle.uc_layout.specs.FieldContents.{rows_by}
use Rattle.uc_layout.specs.Places.{IsPlaces}
use Rattle.uc_layout.specs.ContainmentProgress.{AreCircles}
use Rattle.uc_layout.specs.CellTables.{Counted}
use Rattle.uc_layout.proofs.SizedLemmas.{sized}
use Rattle.uc_layout.proofs.sizes.Sizes.new.Goals as goal

pub invariant_of-result : goal.invariant_of-result
invariant_of-result c =
    let classes : map (λ k. k.now) c.in_ok-classes.classes.items ≡ classes_of c.args.program.now.items = c.in_ok-classes.ensures ∙ ap classes_of c.deref-4.ensures.value ∙ ap (λ p. classes_of p.items) c.program.view_is in
    let constants : map (λ k. k.now) c.in_ok-constants.constants.items ≡ constants_of c.args.program.now.items = c.in_ok-constants.ensures ∙ ap constants_of c.deref.ensures.value ∙ ap (λ p. constants_of p.items) c.program.view_is in
    let values : value_at (map (λ k. k.now) c.in_ok-constants.constants.items) c.in_ok-values.values.items ≡ value_of_name (map (λ k. k.now) c.in_ok-constants.constants.items) = subst (λ l. value_at (map (λ k. k.now) l) c.in_ok-values.values.items ≡ value_of_name (map (λ k. k.now) l)) c.deref-3.ensures.value c.in_ok-values.ensures in
    let rows : c.in_ok-rows.rows.items ≡ rows_by (map (λ k. k.now) c.in_ok-classes.classes.items) (map (λ k. k.now) c.in_ok-constants.constants.items) c.in_ok-values.values.items =
    c.in_ok-rows.ensures
    ∙ ap (λ l. rows_by (map (λ k. k.now) l) (map (λ k. k.now) c.deref-7.result.now) c.deref-8.result.now) c.deref-6.ensures.value
    ∙ ap (λ l. rows_by (map (λ k. k.now) c.in_ok-classes.classes.items) (map (λ k. k.now) l) c.deref-8.result.now) c.deref-7.ensures.value
    ∙ ap (λ l. rows_by (map (λ k. k.now) c.in_ok-classes.classes.items) (map (λ k. k.now) c.in_ok-constants.constants.items) l) c.deref-8.ensures.value in
    let full : length c.in_ok-counted.counted.0.items ≡ length c.in_ok-rows.rows.items = c.in_ok-counted.ensures.full ∙ ap (λ l. length l) c.deref-9.ensures.value in
    let flags : AreCircles c.in_ok-rows.rows.items c.in_ok-counted.counted.0.items (length c.in_ok-rows.rows.items) = subst (λ l. AreCircles l c.in_ok-counted.counted.0.items (length l)) c.deref-9.ensures.value c.in_ok-counted.ensures.flags in
    let counted : Counted (length c.in_ok-rows.rows.items) c.in_ok-rows.rows.items c.in_ok-counted.counted.1.items = subst (λ l. Counted (length l) l c.in_ok-counted.counted.1.items) c.deref-9.ensures.value c.in_ok-counted.ensures.counted in
    let classes_placed = subst (λ l. IsPlaces (map (λ b. b.now.name) l) c.in_ok-class_places.class_places) c.deref-5.ensures.value c.in_ok-class_places.ensures in
    let constants_placed = subst (λ l. IsPlaces (map (λ b. b.now.name) l) c.in_ok-constant_places.constant_places) c.deref-2.ensures.value c.in_ok-constant_places.ensures in
    (sized c.args.program.now (map (λ k. k.now) c.in_ok-classes.classes.items) (map (λ k. k.now) c.in_ok-constants.constants.items) c.in_ok-values.values.items c.in_ok-rows.rows.items c.in_ok-counted.counted.0.items c.in_ok-counted.counted.1.items classes constants values rows full flags counted, classes_placed, constants_placed)
