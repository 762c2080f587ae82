use Rattle.uc_state_laws.proofs.AddressWorlds.{law_addressed}
use Rattle.uc_state_laws.proofs.address.law_addressed.Goals as goal

pub returns : goal.returns
returns c = law_addressed
