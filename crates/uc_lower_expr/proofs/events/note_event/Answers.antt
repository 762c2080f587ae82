use Rattle.std.proofs.Common.{rules, ◌≡◌, ◌+◌, ◌++◌, ◌∷◌, [], true, false, ap, sym, subst, ◌∙◌}
use Rattle.uc_layout.specs.Places.{IsPlaces}
use Rattle.uc_tree.specs.Numbering.{is_event}
use Rattle.uc_tree.specs.Programs.{Class}
use Rattle.uc_lower_expr.proofs.Eventful.{event_noted, event_passed}
use Rattle.uc_lower_expr.proofs.events.note_event.Goals as goal

pub returns-then-not-is_event : goal.returns-then-not-is_event
returns-then-not-is_event c =
    let none : is_event c.args.class.now.kind ≡ false = sym (c.is_event.ensures ∙ ap (λ (k : Class). is_event k.kind) c.class.view_is) ∙ c.if-not-is_event.true in
    event_passed c.args.class.now c.args.count c.args.events.now none

pub returns-in_ok-note_place-in-Some : goal.returns-in_ok-note_place-in-Some
returns-in_ok-note_place-in-Some c =
    let one : is_event c.args.class.now.kind ≡ true = sym (c.is_event.ensures ∙ ap (λ (k : Class). is_event k.kind) c.class.view_is) ∙ search rules in
    let next : c.in-Some.next ≡ c.args.count + 1 = search rules in
    event_noted c.args.class.now c.args.count c.in-Some.next c.args.events.now c.note_place.new.places one next (λ names l was. subst (λ n. IsPlaces (names ++ n ∷ []) c.note_place.new.places) (ap (λ (k : Class). k.name) c.class.view_is) (c.in_ok-note_place-in-Some.ensures names l was))
