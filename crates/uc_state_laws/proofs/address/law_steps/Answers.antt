use Rattle.uc_state_laws.proofs.AddressWorlds.{law_steps}
use Rattle.uc_state_laws.proofs.address.law_steps.Goals as goal

pub returns : goal.returns
returns c = law_steps
