use Rattle.uc_life_laws.proofs.Completing.{law_completing}
use Rattle.uc_life_laws.proofs.cover.law_completing.Goals as goal

pub returns : goal.returns
returns c = law_completing
