use Rattle.std.proofs.Common.{refl, ap, sym, ◌∙◌, ◌≡◌, slice_get, ◌-◌, arith}
use Rattle.std.proofs.lemmas.Option.{slice_get_read}
use Rattle.uc_tree.specs.Cells.{object_of_kind}
use Rattle.uc_layout.proofs.PlacesLemmas.{object_placed, object_nowhere}
use Rattle.uc_layout.proofs.held.object_named.Goals as goal

pub returns-in-Some : goal.returns-in-Some
returns-in-Some c =
    let xs = c.args.classes.now.list.now in
    let place = c.in-Some.place in
    let at = slice_get_read xs _ place c.index-classes-place.result refl c.in-Some.ensures.within c.index-classes-place.is in
    let none : place - 0 ≡ place = omega arith in
    c.object_of_kind.ensures ∙ ap (λ k. object_of_kind place k.kind) c.class.view_is ∙ ap (λ b. object_of_kind place b.now.kind) (sym c.index-classes-place.is) ∙ sym (object_placed (λ b. b.now) xs 0 c.args.name.now place c.index-classes-place.result (sym c.in-Some.ensures.place) (ap (λ k. slice_get xs k) none ∙ at))

pub returns-in-None : goal.returns-in-None
returns-in-None c = sym (object_nowhere (λ b. b.now) c.args.classes.now.list.now 0 c.args.name.now (sym c.in-None.ensures.place))
