use Rattle.std.proofs.Common.{◌≡◌, false}
use Rattle.uc_lock.specs.Meanings.{IsSeatOf}
use Rattle.uc_gate_rows.proofs.diary.write.Given as goal

abbrev pub invariant-loop-entry : goal.invariant-loop-entry
invariant-loop-entry g l = IsSeatOf l.lock l.seat × (l.seat.holds ≡ false) × (l.number ≡ l.seat.number)
