use Rattle.uc_answer_laws.proofs.Runs.{law_suiting}
use Rattle.uc_answer_laws.proofs.laws.law_suiting.Goals as goal

pub returns : goal.returns
returns c = law_suiting
