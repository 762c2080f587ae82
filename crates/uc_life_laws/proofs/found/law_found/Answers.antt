use Rattle.uc_life_laws.proofs.FoundRuns.{law_found}
use Rattle.uc_life_laws.proofs.found.law_found.Goals as goal

pub returns : goal.returns
returns c = law_found
