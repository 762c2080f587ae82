use Rattle.std.proofs.Common.{take}
use Rattle.uc_judge.specs.Compared.{GoesAs}
use Rattle.uc_judge.proofs.comparing.first_other.Given as goal

-- all entries so far stand in the journal
abbrev pub invariant-loop-i : goal.invariant-loop-i
invariant-loop-i l = GoesAs l.lines (take l.i l.made) l.journal
