use Rattle.std.proofs.Common.{◌≡◌, ◌≤◌, ◌+◌, ◌*◌, ◌++◌, take}
use Rattle.uc_journal.specs.Fields.{all_spaced}
use Rattle.uc_journal.proofs.write.put_numbers.Given as goal

-- the numbers so far are written
abbrev pub invariant-loop-number : goal.invariant-loop-number
invariant-loop-number l = record {
  text : take l.at l.buffer ≡ take l.from l.initial.buffer ++ all_spaced (take l.number-index l.numbers);
  room : l.at ≤ l.from + 21 * l.number-index;
}
