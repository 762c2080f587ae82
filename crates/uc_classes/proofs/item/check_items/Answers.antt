use Rattle.std.proofs.Common.{ℕ, ◌+◌, ◌∷◌, drop, refl, ap, subst, sym, arith}
use Rattle.uc_rules.specs.ProgramVisits.{classes_in, item_visits, items_visits}
use Rattle.uc_rules.specs.Visits.{AtItem}
use Rattle.uc_types.specs.FirstBreak.{with_visits}
use Rattle.uc_check_stmt.proofs.Walks.{split}
use Rattle.uc_classes.specs.Counted.{StandBefore, events_in}
use Rattle.uc_classes.proofs.Counts.{stand_first, item_more, item_at}
use Rattle.uc_classes.proofs.Walked.{walked_by}
use Rattle.uc_classes.proofs.item.check_items.Goals as goal

pub loop-place-init : goal.loop-place-init
loop-place-init c =
    let p = c.args.tables.now in
    let same = c.items_of-items.ensures in
    record {
      few_classes = omega arith;
      few_events = omega arith;
      stand = subst (λ l. StandBefore p.items l 0 0) (sym same) (stand_first p.items);
      breaks = ap (λ l. with_visits c.args.found.now (items_visits p 0 0 l)) same;
    }

pub check_placed-requires-clause-at : goal.check_placed-requires-clause-at
check_placed-requires-clause-at c =
    let p = c.args.tables.now in
    let items = c.items_of-items.result.now in
    let i = c.loop-place.place in
    let x = c.index-items-place.result in
    let here : StandBefore p.items (x ∷ drop (i + 1) items) c.loop-place.classes c.loop-place.events = subst (λ l. StandBefore p.items l c.loop-place.classes c.loop-place.events) (split items i x c.loop-place-test.true c.index-items-place.is) c.loop-place.invariant.stand in
    item_at p (drop (i + 1) items) c.loop-place.classes c.loop-place.events x here

pub loop-place-preserved : goal.loop-place-preserved
loop-place-preserved c =
    let p = c.args.tables.now in
    let items = c.items_of-items.result.now in
    let i = c.loop-place.place in
    let x = c.index-items-place.result in
    let k = c.loop-place.classes in
    let e = c.loop-place.events in
    let rest = drop (i + 1) items in
    let here : StandBefore p.items (x ∷ rest) k e = subst (λ l. StandBefore p.items l k e) (split items i x c.loop-place-test.true c.index-items-place.is) c.loop-place.invariant.stand in
    let more : StandBefore p.items rest (k + classes_in x) (e + events_in x) = item_more p.items rest k e x here in
    let counted : StandBefore p.items rest (k + c.class_count-classes.result) (e + events_in x) = subst (λ n. StandBefore p.items rest (k + n) (e + events_in x)) (sym c.class_count-classes.ensures.count) more in
    record {
      few_classes = omega (arith, c.loop-place.invariant.few_classes, c.class_count-classes.ensures.few);
      few_events = omega (arith, c.loop-place.invariant.few_events, c.event_count-events.ensures.few);
      stand = subst (λ n. StandBefore p.items rest (k + c.class_count-classes.result) (e + n)) (sym c.event_count-events.ensures.count) counted;
      breaks = walked_by {S = ℕ × ℕ} (λ s y. AtItem p y s.1 ∷ item_visits p s.0 y) (λ s y. (s.0 + classes_in y, s.1 + 1)) (λ s ys. items_visits p s.0 s.1 ys) (λ s y ys. refl) (k, i) (k + c.class_count-classes.result, i + 1) items i x _ _ _ c.loop-place-test.true c.index-items-place.is (ap (λ n. (k + n, i + 1)) c.class_count-classes.ensures.count) c.in_ok-check_placed.ensures c.loop-place.invariant.breaks;
    }
