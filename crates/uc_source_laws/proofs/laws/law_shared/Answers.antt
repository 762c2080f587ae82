use Rattle.uc_source_laws.proofs.SharedParams.{law_shared}
use Rattle.uc_source_laws.proofs.laws.law_shared.Goals as goal

pub returns : goal.returns
returns c = law_shared
