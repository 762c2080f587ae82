use Rattle.uc_life_laws.proofs.Aparts.{law_apart}
use Rattle.uc_life_laws.proofs.owing.law_apart.Goals as goal

pub returns : goal.returns
returns c = law_apart
