use Rattle.uc_typing.proofs.Sampled.{sample}
use Rattle.uc_typing.proofs.samples.sound_task.Goals as goal

pub returns : goal.returns
returns c = sample
