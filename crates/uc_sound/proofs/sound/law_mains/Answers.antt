use Rattle.uc_sound.proofs.MainLemmas.{law_mains}
use Rattle.uc_sound.proofs.sound.law_mains.Goals as goal

pub returns : goal.returns
returns c = law_mains
