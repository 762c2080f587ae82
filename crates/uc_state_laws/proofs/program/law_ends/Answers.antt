use Rattle.uc_state_laws.proofs.Makes.{law_ends}
use Rattle.uc_state_laws.proofs.program.law_ends.Goals as goal

pub returns : goal.returns
returns c = law_ends
