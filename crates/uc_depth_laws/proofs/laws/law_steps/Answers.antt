use Rattle.uc_depth_laws.proofs.Answers.{law_steps}
use Rattle.uc_depth_laws.proofs.laws.law_steps.Goals as goal

pub returns : goal.returns
returns c = law_steps
