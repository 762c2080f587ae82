use Rattle.uc_state_laws.proofs.Routines.{law_source}
use Rattle.uc_state_laws.proofs.scope.law_source.Goals as goal

pub returns : goal.returns
returns c = law_source
