use Rattle.std.proofs.Common.{refl, ap, sym, ◌∙◌, ◌≡◌, Some, None, slice_get, ◌-◌, arith}
use Rattle.std.specs.Prelude.{if◌then◌else◌}
use Rattle.std.proofs.lemmas.Option.{slice_get_read}
use Rattle.uc_tree.specs.Numbering.{is_event}
use Rattle.uc_layout.proofs.PlacesLemmas.{event_placed, event_nowhere}
use Rattle.uc_layout.proofs.held.event_named.Goals as goal

pub returns-in-Some : goal.returns-in-Some
returns-in-Some c =
    let xs = c.args.classes.now.list.now in
    let place = c.in-Some.place in
    let at = slice_get_read xs _ place c.index-classes-place.result refl c.in-Some.ensures.within c.index-classes-place.is in
    let none : place - 0 ≡ place = omega arith in
    c.event_of_kind.ensures ∙ ap (λ k. if is_event k.kind then Some place else None) c.class.view_is ∙ ap (λ b. if is_event b.now.kind then Some place else None) (sym c.index-classes-place.is) ∙ sym (event_placed (λ b. b.now) xs 0 c.args.name.now place c.index-classes-place.result (sym c.in-Some.ensures.place) (ap (λ k. slice_get xs k) none ∙ at))

pub returns-in-None : goal.returns-in-None
returns-in-None c = sym (event_nowhere (λ b. b.now) c.args.classes.now.list.now 0 c.args.name.now (sym c.in-None.ensures.place))
