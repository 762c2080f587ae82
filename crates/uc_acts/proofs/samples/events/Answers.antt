use Rattle.uc_acts.proofs.Sampled.{event_samples}
use Rattle.uc_acts.proofs.samples.events.Goals as goal

pub returns : goal.returns
returns c = event_samples
