use Rattle.uc_inner_laws.proofs.Walk.{law_makes}
use Rattle.uc_inner_laws.proofs.laws.law_makes.Goals as goal

pub returns : goal.returns
returns c = law_makes
