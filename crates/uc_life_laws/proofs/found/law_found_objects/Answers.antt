use Rattle.uc_life_laws.proofs.FoundRuns.{law_found_objects}
use Rattle.uc_life_laws.proofs.found.law_found_objects.Goals as goal

pub returns : goal.returns
returns c = law_found_objects
