use Rattle.uc_life_laws.proofs.UnmarkedWalk.{law_steps}
use Rattle.uc_life_laws.proofs.unmarked.law_steps.Goals as goal

pub returns : goal.returns
returns c = law_steps
