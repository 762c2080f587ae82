use Rattle.uc_state_laws.proofs.NamedWorlds.{law_names}
use Rattle.uc_state_laws.proofs.program.law_names.Goals as goal

pub returns : goal.returns
returns c = law_names
