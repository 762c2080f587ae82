use Rattle.uc_state_laws.proofs.Others.{law_others}
use Rattle.uc_state_laws.proofs.program.law_others.Goals as goal

pub returns : goal.returns
returns c = law_others
