use Rattle.uc_typing.proofs.Answers.{law_answered}
use Rattle.uc_typing.proofs.laws.law_answered.Goals as goal

pub returns : goal.returns
returns c = law_answered
