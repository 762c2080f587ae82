use Rattle.uc_life_laws.proofs.HomedReading.{law_reading}
use Rattle.uc_life_laws.proofs.home.law_reading.Goals as goal

pub returns : goal.returns
returns c = law_reading
