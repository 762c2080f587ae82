use Rattle.std.proofs.Common.{[], rules}
use Rattle.std.proofs.lemmas.List.Elements.{All-nil}
use Rattle.uc_judge.specs.Narrow.{IsTold}
use Rattle.uc_judge.proofs.Settling.{ledger_of}
use Rattle.uc_judge.proofs.ledger.Ledger.new.Goals as goal

pub returns-clause-ledger : goal.returns-clause-ledger
returns-clause-ledger c sites =
    ledger_of [] c.new-2.ensures.items (All-nil IsTold) (search rules) c.new-3.ensures c.new-4.ensures (λ lt. c.new-5.ensures) c.new-6.ensures c.new-7.ensures c.new-8.ensures (c.new-9.ensures sites) c.in_ok-processors.ensures
