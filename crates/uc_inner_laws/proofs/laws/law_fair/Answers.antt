use Rattle.uc_inner_laws.proofs.Walk.{law_fair}
use Rattle.uc_inner_laws.proofs.laws.law_fair.Goals as goal

pub returns : goal.returns
returns c = law_fair
