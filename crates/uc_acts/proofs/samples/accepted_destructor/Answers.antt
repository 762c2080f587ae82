use Rattle.uc_acts.proofs.Sampled.{accepted_destructor}
use Rattle.uc_acts.proofs.samples.accepted_destructor.Goals as goal

pub returns : goal.returns
returns c = accepted_destructor
