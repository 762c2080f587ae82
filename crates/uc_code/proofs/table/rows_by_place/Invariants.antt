use Rattle.uc_code.proofs.Tabled.{Counting, Tabling}
use Rattle.uc_code.proofs.table.rows_by_place.Given as goal

abbrev pub invariant-loop-place : goal.invariant-loop-place
invariant-loop-place l = Counting l.free.items l.place

abbrev pub invariant-loop-name : goal.invariant-loop-name
invariant-loop-name l = Tabling l.rows l.places l.name l.table.items l.free.items

abbrev pub decreases-loop-name : goal.decreases-loop-name
decreases-loop-name l = l.name
