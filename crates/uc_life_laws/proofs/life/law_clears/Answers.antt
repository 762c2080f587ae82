use Rattle.uc_life_laws.proofs.Laying.{law_clears}
use Rattle.uc_life_laws.proofs.life.law_clears.Goals as goal

pub returns : goal.returns
returns c = law_clears
