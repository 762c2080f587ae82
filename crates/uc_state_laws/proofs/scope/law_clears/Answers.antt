use Rattle.uc_state_laws.proofs.ScopeWalk.{law_clears}
use Rattle.uc_state_laws.proofs.scope.law_clears.Goals as goal

pub returns : goal.returns
returns c = law_clears
