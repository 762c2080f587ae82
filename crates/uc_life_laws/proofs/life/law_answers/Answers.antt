use Rattle.uc_life_laws.proofs.KnownAnswers.{law_answers}
use Rattle.uc_life_laws.proofs.life.law_answers.Goals as goal

pub returns : goal.returns
returns c = law_answers
