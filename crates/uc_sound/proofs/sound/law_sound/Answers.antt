use Rattle.uc_sound.proofs.SoundLemmas.{law_sound}
use Rattle.uc_sound.proofs.sound.law_sound.Goals as goal

pub returns : goal.returns
returns c = law_sound
