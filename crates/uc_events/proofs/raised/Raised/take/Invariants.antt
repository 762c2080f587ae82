use Rattle.std.proofs.Common.{◌≡◌, take, drop, ◌++◌}
use Rattle.uc_acts.specs.Pending.{oldest_in}
use Rattle.uc_events.specs.Pending.{without_oldest}
use Rattle.uc_events.proofs.raised.Raised.take.Given as goal

abbrev pub invariant-loop-at : goal.invariant-loop-at
invariant-loop-at l = record {
  oldest : oldest_in l.mask l.fn.self ≡ oldest_in l.mask (drop l.at l.self-inside.events.items);
  others : without_oldest l.mask l.fn.self ≡ take l.at l.self-inside.events.items ++ without_oldest l.mask (drop l.at l.self-inside.events.items);
}
