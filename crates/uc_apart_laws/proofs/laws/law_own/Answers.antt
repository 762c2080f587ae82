use Rattle.uc_apart_laws.proofs.Own.{law_own}
use Rattle.uc_apart_laws.proofs.laws.law_own.Goals as goal

pub returns : goal.returns
returns c = law_own
