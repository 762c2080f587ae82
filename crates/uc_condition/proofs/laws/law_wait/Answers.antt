use Rattle.uc_condition.proofs.Mirrors.{wait}
use Rattle.uc_condition.proofs.laws.law_wait.Goals as goal

pub returns : goal.returns
returns c = wait
