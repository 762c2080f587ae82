use Rattle.uc_homed_ends.proofs.Found.{law_found}
use Rattle.uc_homed_ends.proofs.laws.law_found.Goals as goal

pub returns : goal.returns
returns c = law_found
