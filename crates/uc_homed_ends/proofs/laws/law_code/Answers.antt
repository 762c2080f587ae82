use Rattle.uc_homed_ends.proofs.EndHomes.{law_code}
use Rattle.uc_homed_ends.proofs.laws.law_code.Goals as goal

pub returns : goal.returns
returns c = law_code
