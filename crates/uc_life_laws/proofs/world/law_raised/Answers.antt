use Rattle.uc_life_laws.proofs.Lasting.{law_raised}
use Rattle.uc_life_laws.proofs.world.law_raised.Goals as goal

pub returns : goal.returns
returns c = law_raised
