use Rattle.uc_place_laws.proofs.Taking.{law_taken}
use Rattle.uc_place_laws.proofs.binding.law_taken.Goals as goal

pub returns : goal.returns
returns c = law_taken
