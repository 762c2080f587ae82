use Rattle.std.proofs.Common.{◌≡◌, ◌≤◌, drop}
use Rattle.uc_rules.specs.ProgramVisits.{items_visits}
use Rattle.uc_types.specs.FirstBreak.{with_visits}
use Rattle.uc_classes.specs.Counted.{StandBefore}
use Rattle.uc_classes.proofs.item.check_items.Given as goal

abbrev pub invariant-loop-place : goal.invariant-loop-place
invariant-loop-place l = record {
  few_classes : l.classes ≤ l.place;
  few_events : l.events ≤ l.place;
  stand : StandBefore l.tables.items (drop l.place l.items) l.classes l.events;
  breaks : with_visits l.found (items_visits l.tables l.classes l.place (drop l.place l.items)) ≡ with_visits l.fn.found (items_visits l.tables 0 0 l.tables.items);
}
