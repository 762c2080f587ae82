use Rattle.uc_request_laws.proofs.RequestLemmas.{law_names}
use Rattle.uc_request_laws.proofs.laws.law_names.Goals as goal

pub returns : goal.returns
returns c = law_names
