use Rattle.uc_life_laws.proofs.Own.{law_unmarked}
use Rattle.uc_life_laws.proofs.unmarked.law_unmarked.Goals as goal

pub returns : goal.returns
returns c = law_unmarked
