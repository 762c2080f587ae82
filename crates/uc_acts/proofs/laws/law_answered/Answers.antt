use Rattle.uc_acts.proofs.Answered.{law_answered}
use Rattle.uc_acts.proofs.laws.law_answered.Goals as goal

pub returns : goal.returns
returns c = law_answered
