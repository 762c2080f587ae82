use Rattle.uc_frames.proofs.Masks.{Masked}
use Rattle.uc_frames.proofs.work.Work.guards.Given as goal

abbrev pub invariant-loop-i : goal.invariant-loop-i
invariant-loop-i l = Masked l.i l.mask l.fn.self.run.operands
