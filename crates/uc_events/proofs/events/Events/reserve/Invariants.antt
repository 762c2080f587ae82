use Rattle.std.proofs.Common.{◌≡◌, ◌++◌, [], replicate, length}
use Rattle.uc_events.proofs.events.Events.reserve.Given as goal

abbrev pub invariant-loop : goal.invariant-loop
invariant-loop l = record {
  known : l.known ≡ length l.fn.self;
  added : l.self ≡ l.fn.self ++ replicate l.counter [];
}
