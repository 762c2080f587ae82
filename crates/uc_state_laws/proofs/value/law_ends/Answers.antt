use Rattle.uc_state_laws.proofs.ValueWorlds.{law_ends}
use Rattle.uc_state_laws.proofs.value.law_ends.Goals as goal

pub returns : goal.returns
returns c = law_ends
