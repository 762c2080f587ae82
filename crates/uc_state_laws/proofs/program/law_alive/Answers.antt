use Rattle.uc_state_laws.proofs.Alive.{law_alive}
use Rattle.uc_state_laws.proofs.program.law_alive.Goals as goal

pub returns : goal.returns
returns c = law_alive
