use Rattle.uc_state_laws.proofs.Unreferring.{law_accepted}
use Rattle.uc_state_laws.proofs.scope.law_accepted.Goals as goal

pub returns : goal.returns
returns c = law_accepted
