use Rattle.uc_making_laws.proofs.LettingWalk.{law_letting}
use Rattle.uc_making_laws.proofs.laws.law_letting.Goals as goal

pub returns : goal.returns
returns c = law_letting
