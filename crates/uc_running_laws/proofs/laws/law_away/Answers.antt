use Rattle.uc_running_laws.proofs.AwayLemmas.{law_away}
use Rattle.uc_running_laws.proofs.laws.law_away.Goals as goal

pub returns : goal.returns
returns c = law_away
