use Rattle.uc_life_laws.proofs.HomedWalk.{law_steps}
use Rattle.uc_life_laws.proofs.home.law_steps.Goals as goal

pub returns : goal.returns
returns c = law_steps
