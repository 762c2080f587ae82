use Rattle.uc_judge.proofs.Cuts.{law_cut}
use Rattle.uc_judge.specs.Runs.{cause_of}
use Rattle.uc_judge.proofs.laws.law_cut.Goals as goal

pub returns : goal.returns
returns g c first sites input lines =
    law_cut (cause_of g.A.Asks.asks g.A.Asks.told first sites input lines) g.met.A.Asks.once g.met.A.Asks.whole
