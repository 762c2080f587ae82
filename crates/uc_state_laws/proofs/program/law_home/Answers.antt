use Rattle.uc_state_laws.proofs.Others.{law_home}
use Rattle.uc_state_laws.proofs.program.law_home.Goals as goal

pub returns : goal.returns
returns c = law_home
