use Rattle.uc_sound.proofs.ClassLemmas.{law_told}
use Rattle.uc_sound.proofs.sound.law_told.Goals as goal

pub returns : goal.returns
returns c = law_told
