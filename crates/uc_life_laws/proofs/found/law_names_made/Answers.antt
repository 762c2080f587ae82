use Rattle.uc_life_laws.proofs.FoundRuns.{law_names_made}
use Rattle.uc_life_laws.proofs.found.law_names_made.Goals as goal

pub returns : goal.returns
returns c = law_names_made
