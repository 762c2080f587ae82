use Rattle.uc_request_laws.proofs.RequestLemmas.{law_texts}
use Rattle.uc_request_laws.proofs.laws.law_texts.Goals as goal

pub returns : goal.returns
returns c = law_texts
