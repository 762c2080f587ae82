use Rattle.uc_state_laws.proofs.ScopeWalk.{law_steps}
use Rattle.uc_state_laws.proofs.scope.law_steps.Goals as goal

pub returns : goal.returns
returns c = law_steps
