use Rattle.uc_condition.proofs.Mirrors.{take_one}
use Rattle.uc_condition.proofs.laws.law_take.Goals as goal

pub returns : goal.returns
returns c = take_one
