use Rattle.uc_state_laws.proofs.Through.{law_through}
use Rattle.uc_state_laws.proofs.program.law_through.Goals as goal

pub returns : goal.returns
returns c = law_through
