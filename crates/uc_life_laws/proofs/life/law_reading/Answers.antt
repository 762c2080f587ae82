use Rattle.uc_life_laws.proofs.Scopes.{law_reading}
use Rattle.uc_life_laws.proofs.life.law_reading.Goals as goal

pub returns : goal.returns
returns c = law_reading
