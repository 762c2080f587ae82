use Rattle.uc_condition.proofs.Mirrors.{others}
use Rattle.uc_condition.proofs.laws.law_others.Goals as goal

pub returns : goal.returns
returns c = others
