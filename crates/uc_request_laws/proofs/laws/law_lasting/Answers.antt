use Rattle.uc_request_laws.proofs.LastingLemmas.{law_lasting}
use Rattle.uc_request_laws.proofs.laws.law_lasting.Goals as goal

pub returns : goal.returns
returns c = law_lasting
