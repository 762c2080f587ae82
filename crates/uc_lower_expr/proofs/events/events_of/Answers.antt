use Rattle.std.proofs.Common.{◌≡◌, Some, take_all, sym, subst, arith}
use Rattle.uc_layout.specs.Places.{IsPlaces}
use Rattle.uc_tree.specs.Cells.{classes_of}
use Rattle.uc_tree.specs.Numbering.{event_names}
use Rattle.uc_tree.specs.Objects.{class_at}
use Rattle.uc_lower_expr.proofs.Eventful.{events_next, events_none}
use Rattle.uc_lower_expr.proofs.events.events_of.Goals as goal

pub loop-place-init : goal.loop-place-init
loop-place-init c = events_none (classes_of c.args.sizes.now.items) c.in_ok-events.events c.in_ok-events.ensures

pub loop-place-preserved : goal.loop-place-preserved
loop-place-preserved c =
    let there : class_at c.args.sizes.now c.loop-place.place ≡ Some c.in-Some.class.now = sym c.in-Some.ensures in
    events_next (classes_of c.args.sizes.now.items) c.loop-place.place c.in-Some.class.now c.loop-place.known c.in_ok-known-in-Some.known c.loop-place.events c.note_event.new.events there c.in_ok-known-in-Some.ensures c.loop-place.invariant

pub returns : goal.returns
returns c =
    let cs = classes_of c.args.sizes.now.items in
    subst (λ xs. IsPlaces (event_names xs) c.loop-place.events) (take_all c.loop-place.place cs (let n = c.requires in omega (arith, n))) c.loop-place.invariant.1
