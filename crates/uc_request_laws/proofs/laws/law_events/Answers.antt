use Rattle.uc_request_laws.proofs.RequestLemmas.{law_events}
use Rattle.uc_request_laws.proofs.laws.law_events.Goals as goal

pub returns : goal.returns
returns c = law_events
