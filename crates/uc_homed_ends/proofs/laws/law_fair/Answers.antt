use Rattle.uc_homed_ends.proofs.EndHomes.{law_fair}
use Rattle.uc_homed_ends.proofs.laws.law_fair.Goals as goal

pub returns : goal.returns
returns c = law_fair
