use Rattle.uc_state_laws.proofs.Readings.{law_reading}
use Rattle.uc_state_laws.proofs.value.law_reading.Goals as goal

pub returns : goal.returns
returns c = law_reading
