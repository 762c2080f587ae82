use Rattle.uc_request_laws.proofs.ApartLemmas.{law_apart_runs}
use Rattle.uc_request_laws.proofs.laws.law_apart_runs.Goals as goal

pub returns : goal.returns
returns c = law_apart_runs
