use Rattle.uc_life_laws.proofs.Lasting.{law_lasting}
use Rattle.uc_life_laws.proofs.world.law_lasting.Goals as goal

pub returns : goal.returns
returns c = law_lasting
