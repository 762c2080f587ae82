use Rattle.uc_step_laws.proofs.Walk.{law_rides}
use Rattle.uc_step_laws.proofs.laws.law_rides.Goals as goal

pub returns : goal.returns
returns c = law_rides
