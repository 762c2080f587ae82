use Rattle.uc_state_laws.proofs.Makings.{law_makers}
use Rattle.uc_state_laws.proofs.value.law_makers.Goals as goal

pub returns : goal.returns
returns c = law_makers
