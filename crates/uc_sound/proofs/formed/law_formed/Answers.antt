use Rattle.uc_sound.proofs.Texts.{law_formed}
use Rattle.uc_sound.proofs.formed.law_formed.Goals as goal

pub returns : goal.returns
returns c = law_formed
