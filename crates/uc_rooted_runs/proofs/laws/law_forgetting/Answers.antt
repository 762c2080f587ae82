use Rattle.uc_rooted_runs.proofs.Forgetting.{law_forgetting}
use Rattle.uc_rooted_runs.proofs.laws.law_forgetting.Goals as goal

pub returns : goal.returns
returns c = law_forgetting
