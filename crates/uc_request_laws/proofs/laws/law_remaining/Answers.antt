use Rattle.uc_request_laws.proofs.RemainingLemmas.{law_remaining}
use Rattle.uc_request_laws.proofs.laws.law_remaining.Goals as goal

pub returns : goal.returns
returns c = law_remaining
