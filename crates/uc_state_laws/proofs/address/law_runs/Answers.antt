use Rattle.uc_state_laws.proofs.AddressWorlds.{law_runs}
use Rattle.uc_state_laws.proofs.address.law_runs.Goals as goal

pub returns : goal.returns
returns c = law_runs
