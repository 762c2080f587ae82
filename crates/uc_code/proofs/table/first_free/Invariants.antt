use Rattle.std.proofs.Common.{◌-◌, length}
use Rattle.uc_code.specs.RowTable.{Seeking}
use Rattle.uc_code.proofs.table.first_free.Given as goal

abbrev pub invariant-loop-at : goal.invariant-loop-at
invariant-loop-at l = Seeking l.from l.initial.free.items l.free.items l.at

abbrev pub decreases-loop-at : goal.decreases-loop-at
decreases-loop-at l = length l.free.items - l.at
