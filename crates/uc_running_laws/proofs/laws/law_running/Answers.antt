use Rattle.uc_running_laws.proofs.RunningLemmas.{law_running}
use Rattle.uc_running_laws.proofs.laws.law_running.Goals as goal

pub returns : goal.returns
returns c = law_running
