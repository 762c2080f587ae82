use Rattle.std.proofs.Common.{◌≡◌, ◌+◌}
use Rattle.uc_mutex.specs.Doors.{with_room}
use Rattle.uc_mutex.proofs.entries.Entries.reserve.Given as goal

abbrev pub invariant-loop : goal.invariant-loop
invariant-loop l = record {
  known : l.known ≡ l.fn.self.tasks;
  tasks : l.self.tasks ≡ l.fn.self.tasks + l.counter;
  same : l.self ≡ with_room l.fn.self l.self.tasks;
}
