use Rattle.uc_state_laws.proofs.ValueWorlds.{law_counts}
use Rattle.uc_state_laws.proofs.value.law_counts.Goals as goal

pub returns : goal.returns
returns c = law_counts
