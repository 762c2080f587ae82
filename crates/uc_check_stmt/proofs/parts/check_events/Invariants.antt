use Rattle.std.proofs.Common.{◌≡◌, drop}
use Rattle.uc_rules.specs.Visits.{events_visits}
use Rattle.uc_types.specs.FirstBreak.{with_visits}
use Rattle.uc_check_stmt.proofs.parts.check_events.Given as goal

abbrev pub invariant-loop-event : goal.invariant-loop-event
invariant-loop-event l = with_visits l.found (events_visits l.names (drop l.event-index l.events)) ≡ with_visits l.fn.found (events_visits l.names l.events)
