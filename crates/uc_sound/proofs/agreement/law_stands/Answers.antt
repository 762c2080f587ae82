use Rattle.uc_sound.proofs.UnbrokenLemmas.{law_stands}
use Rattle.uc_sound.proofs.agreement.law_stands.Goals as goal

pub returns : goal.returns
returns c = law_stands
