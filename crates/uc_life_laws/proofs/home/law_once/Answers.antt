use Rattle.uc_life_laws.proofs.Homes.{law_once}
use Rattle.uc_life_laws.proofs.home.law_once.Goals as goal

pub returns : goal.returns
returns c = law_once
