use Rattle.uc_condition.proofs.Mirrors.{opening}
use Rattle.uc_condition.proofs.laws.law_opening.Goals as goal

pub returns : goal.returns
returns c = opening
