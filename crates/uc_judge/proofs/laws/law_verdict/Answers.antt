use Rattle.uc_judge.proofs.Verdicts.{law_verdict}
use Rattle.uc_judge.specs.Runs.{cause_of}
use Rattle.uc_judge.proofs.laws.law_verdict.Goals as goal

pub returns : goal.returns
returns g c first sites input lines =
    law_verdict (cause_of g.A.Asks.asks g.A.Asks.told first sites input lines)
