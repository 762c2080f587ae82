use Rattle.uc_life_laws.proofs.Called.{law_called}
use Rattle.uc_life_laws.proofs.world.law_called.Goals as goal

pub returns : goal.returns
returns c = law_called
