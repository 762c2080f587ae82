use Rattle.std.proofs.Common.{refl, [], ◌∷◌}
use Rattle.uc_rules.specs.Visits.{AtEvent, events_visits}
use Rattle.uc_check_stmt.proofs.Walks.{noted_more}
use Rattle.uc_check_stmt.proofs.parts.check_events.Goals as goal

pub loop-event-preserved : goal.loop-event-preserved
loop-event-preserved c = noted_more (λ x. AtEvent c.args.names.now x.pos x.name ∷ []) (λ xs. events_visits c.args.names.now xs) (λ x xs. refl) c.args.events.now c.loop-event.event-index c.event-item.result _ _ _ c.loop-event-test.true c.event-item.is c.ask_event.ensures c.loop-event.invariant
