use Rattle.uc_state_laws.proofs.Limits.{law_limits}
use Rattle.uc_state_laws.proofs.address.law_limits.Goals as goal

pub returns : goal.returns
returns c = law_limits
