use Rattle.uc_life_laws.proofs.Own.{law_own}
use Rattle.uc_life_laws.proofs.unmarked.law_own.Goals as goal

pub returns : goal.returns
returns c = law_own
