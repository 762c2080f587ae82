use Rattle.uc_state_laws.proofs.Others.{law_processor}
use Rattle.uc_state_laws.proofs.program.law_processor.Goals as goal

pub returns : goal.returns
returns c = law_processor
