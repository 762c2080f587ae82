use Rattle.uc_state_laws.proofs.Openings.{law_opening}
use Rattle.uc_state_laws.proofs.scope.law_opening.Goals as goal

pub returns : goal.returns
returns c = law_opening
