use Rattle.uc_acts.proofs.Sampled.{call_samples}
use Rattle.uc_acts.proofs.samples.calls.Goals as goal

pub returns : goal.returns
returns c = call_samples
