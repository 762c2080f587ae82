use Rattle.std.proofs.Common.{length, ◌-◌}
use Rattle.uc_judge.specs.Runs.{cause_of}
use Rattle.uc_judge.specs.Walks.{IsReady, Stands}
use Rattle.uc_judge.proofs.judging.walk.Given as goal

-- the ledger takes the next act, and what stood at first stands
abbrev pub invariant-loop-ledger : goal.invariant-loop-ledger
invariant-loop-ledger g l =
    IsReady l.ledger l.sites × ((first : _) → Stands (cause_of g.A.Asks.asks g.A.Asks.told first l.sites l.input l.lines) l.fn.ledger l.fn.tasks l.journal → Stands (cause_of g.A.Asks.asks g.A.Asks.told first l.sites l.input l.lines) l.ledger l.tasks l.journal)

abbrev pub decreases-loop-ledger : goal.decreases-loop-ledger
decreases-loop-ledger g l = length l.journal - length l.ledger.entries.items
