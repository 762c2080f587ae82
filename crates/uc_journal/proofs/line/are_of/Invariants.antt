use Rattle.std.proofs.Common.{drop}
use Rattle.uc_acts.specs.Fit.{AreOf}
use Rattle.uc_journal.proofs.line.are_of.Given as goal

-- the numbers that were passed are of their types
abbrev pub invariant-loop-i : goal.invariant-loop-i
invariant-loop-i l = record {
  there : AreOf (drop l.i l.types) (drop l.i l.values) → AreOf l.types l.values;
  back : AreOf l.types l.values → AreOf (drop l.i l.types) (drop l.i l.values);
}
