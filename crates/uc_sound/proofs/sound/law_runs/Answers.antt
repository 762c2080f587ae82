use Rattle.uc_sound.proofs.SoundLemmas.{law_runs}
use Rattle.uc_sound.proofs.sound.law_runs.Goals as goal

pub returns : goal.returns
returns c = law_runs
