use Rattle.std.proofs.Common.{◌-◌, length}
use Rattle.uc_code.proofs.Tabled.{Filling}
use Rattle.uc_code.proofs.table.fill.Given as goal

abbrev pub invariant-loop-place : goal.invariant-loop-place
invariant-loop-place l = Filling l.row l.name l.initial.table.items l.table.items l.free.items l.place

abbrev pub decreases-loop-place : goal.decreases-loop-place
decreases-loop-place l = length l.table.items - l.place
