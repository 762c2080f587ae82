use Rattle.uc_request_laws.proofs.RequestLemmas.{law_holds}
use Rattle.uc_request_laws.proofs.laws.law_holds.Goals as goal

pub returns : goal.returns
returns c = law_holds
