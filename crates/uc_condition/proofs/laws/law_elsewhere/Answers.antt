use Rattle.uc_condition.proofs.Mirrors.{elsewhere}
use Rattle.uc_condition.proofs.laws.law_elsewhere.Goals as goal

pub returns : goal.returns
returns c = elsewhere
