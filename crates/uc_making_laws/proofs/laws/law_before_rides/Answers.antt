use Rattle.uc_making_laws.proofs.BeforeRides.{law_before_rides}
use Rattle.uc_making_laws.proofs.laws.law_before_rides.Goals as goal

pub returns : goal.returns
returns c = law_before_rides
