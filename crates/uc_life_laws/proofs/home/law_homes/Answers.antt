use Rattle.uc_life_laws.proofs.Homes.{law_homes}
use Rattle.uc_life_laws.proofs.home.law_homes.Goals as goal

pub returns : goal.returns
returns c = law_homes
