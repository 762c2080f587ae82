use Rattle.std.proofs.Common.{take}
use Rattle.uc_acts.specs.Acts.{prints}
use Rattle.uc_judge.specs.Actors.{cost_of}
use Rattle.uc_judge.specs.Ledgers.{Adds}
use Rattle.uc_judge.proofs.ledger.Ledger.print.Given as goal

-- the items so far are printed
abbrev pub invariant-loop-i : goal.invariant-loop-i
invariant-loop-i l =
    Adds l.fn.self l.self l.sites (prints l.actor.processor l.actor.task (cost_of l.actor) (take l.i l.items))
