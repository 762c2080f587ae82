use Rattle.uc_state_laws.proofs.Ticks.{law_left}
use Rattle.uc_state_laws.proofs.program.law_left.Goals as goal

pub returns : goal.returns
returns c = law_left
