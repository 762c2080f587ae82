use Rattle.std.proofs.Common.{◌≡◌}
use Rattle.uc_vproc.specs.declared.step.Step.TheVariants.{Going}
use Rattle.uc_vproc.specs.Workers.{IsReady, HasCome}
use Rattle.uc_vproc.proofs.work.work.Given as goal

abbrev pub invariant-loop : goal.invariant-loop
invariant-loop g l = record {
  ready : IsReady l.lock l.seat;
  same : l.seat.number ≡ l.initial.seat.number;
  came : (given : _) → l.step ≡ Going given → HasCome l.lock l.seat (Going given);
}
