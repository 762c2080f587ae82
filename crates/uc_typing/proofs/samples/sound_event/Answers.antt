use Rattle.uc_typing.proofs.Sampled.{event_sample}
use Rattle.uc_typing.proofs.samples.sound_event.Goals as goal

pub returns : goal.returns
returns c = event_sample
