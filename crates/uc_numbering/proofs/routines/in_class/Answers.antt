use Rattle.std.proofs.Common.{refl, ap, sym, Some, ◌∙◌}
use Rattle.std.proofs.lemmas.Option.{slice_get_read}
use Rattle.uc_numbering.proofs.ByClasses.{in_placed, in_nowhere}
use Rattle.uc_numbering.proofs.routines.in_class.Goals as goal

pub returns-in-Some : goal.returns-in-Some
returns-in-Some c =
    let xs = c.args.classes.now in
    let place = c.in-Some.place in
    let at = slice_get_read xs _ place c.index-classes-place.result refl c.in-Some.ensures.within c.index-classes-place.is in
    ap (λ k. record { class = Some c.index-classes-place.result.now; number = k; routine = c.args.routine.now }) c.number_at.ensures ∙ sym (in_placed (λ b. b.now) xs c.args.name.now c.args.routine.now place c.index-classes-place.result c.requires.objects (sym c.in-Some.ensures.place) at)

pub returns-in-None : goal.returns-in-None
returns-in-None c = c.outside.ensures ∙ sym (in_nowhere (λ b. b.now) c.args.classes.now c.args.name.now c.args.routine.now c.requires.objects (sym c.in-None.ensures.place))
