use Rattle.uc_life_laws.proofs.Endings.{law_endings}
use Rattle.uc_life_laws.proofs.life.law_endings.Goals as goal

pub returns : goal.returns
returns c = law_endings
