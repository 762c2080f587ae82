use Rattle.uc_life_laws.proofs.NamedLemmas.{law_named_runs}
use Rattle.uc_life_laws.proofs.named.law_named_runs.Goals as goal

pub returns : goal.returns
returns c = law_named_runs
