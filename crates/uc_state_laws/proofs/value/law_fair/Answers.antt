use Rattle.uc_state_laws.proofs.ValueWorlds.{law_fair}
use Rattle.uc_state_laws.proofs.value.law_fair.Goals as goal

pub returns : goal.returns
returns c = law_fair
