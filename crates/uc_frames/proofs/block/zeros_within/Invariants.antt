use Rattle.std.proofs.Common.{◌≡◌, ◌≤◌, ◌+◌, ◌++◌, length, replicate, vec_capacity}
use Rattle.uc_frames.specs.Machine.{nought}
use Rattle.uc_frames.proofs.block.zeros_within.Given as goal

abbrev pub invariant-loop : goal.invariant-loop
invariant-loop l = record {
  made : l.cells.items ≡ l.fn.cells.items ++ replicate l.counter nought;
  room : length l.fn.cells.items + l.count ≤ vec_capacity l.cells;
}
