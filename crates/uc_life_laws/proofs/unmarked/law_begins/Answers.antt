use Rattle.uc_life_laws.proofs.Ending.{law_begins}
use Rattle.uc_life_laws.proofs.unmarked.law_begins.Goals as goal

pub returns : goal.returns
returns c = law_begins
