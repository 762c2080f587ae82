use Rattle.uc_judge.proofs.Told.{law_answers}
use Rattle.uc_judge.proofs.laws.law_answers.Goals as goal

pub returns : goal.returns
returns c = law_answers
