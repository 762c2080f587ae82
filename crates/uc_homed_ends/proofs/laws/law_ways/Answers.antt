use Rattle.uc_homed_ends.proofs.EndHomes.{law_ways}
use Rattle.uc_homed_ends.proofs.laws.law_ways.Goals as goal

pub returns : goal.returns
returns c = law_ways
