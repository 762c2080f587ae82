use Rattle.std.proofs.Common.{◌≡◌, ◌≤◌, drop, length}
use Rattle.uc_code.specs.RowTable.{covering_from}
use Rattle.uc_code.proofs.table.covering.Given as goal

abbrev pub invariant-loop-name : goal.invariant-loop-name
invariant-loop-name l = (l.name ≤ length l.rows) × (covering_from l.name (drop l.name l.rows) l.next ≡ 0)

abbrev pub decreases-loop-name : goal.decreases-loop-name
decreases-loop-name l = l.name
