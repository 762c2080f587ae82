use Rattle.uc_state_laws.proofs.Arguments.{law_counted}
use Rattle.uc_state_laws.proofs.event.law_counted.Goals as goal

pub returns : goal.returns
returns c = law_counted
