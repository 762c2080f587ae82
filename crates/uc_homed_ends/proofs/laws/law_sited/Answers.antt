use Rattle.uc_homed_ends.proofs.SitedSources.{law_sited}
use Rattle.uc_homed_ends.proofs.laws.law_sited.Goals as goal

pub returns : goal.returns
returns c = law_sited
