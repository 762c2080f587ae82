use Rattle.uc_sound.proofs.Placed.{law_fair}
use Rattle.uc_sound.proofs.enter.law_fair.Goals as goal

pub returns : goal.returns
returns c = law_fair
