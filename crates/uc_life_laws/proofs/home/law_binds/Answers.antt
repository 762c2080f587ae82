use Rattle.uc_life_laws.proofs.Homes.{law_binds}
use Rattle.uc_life_laws.proofs.home.law_binds.Goals as goal

pub returns : goal.returns
returns c = law_binds
