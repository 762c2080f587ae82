use Rattle.uc_life_laws.proofs.LifeWalk.{law_steps}
use Rattle.uc_life_laws.proofs.life.law_steps.Goals as goal

pub returns : goal.returns
returns c = law_steps
