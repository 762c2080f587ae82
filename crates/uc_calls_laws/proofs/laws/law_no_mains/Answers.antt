use Rattle.uc_calls_laws.proofs.CallParts.{law_no_mains}
use Rattle.uc_calls_laws.proofs.laws.law_no_mains.Goals as goal

pub returns : goal.returns
returns c = law_no_mains
