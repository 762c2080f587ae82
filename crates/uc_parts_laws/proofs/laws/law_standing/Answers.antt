use Rattle.uc_parts_laws.proofs.StandingWalk.{law_standing}
use Rattle.uc_parts_laws.proofs.laws.law_standing.Goals as goal

pub returns : goal.returns
returns c = law_standing
