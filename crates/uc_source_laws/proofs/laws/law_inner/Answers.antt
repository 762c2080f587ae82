use Rattle.uc_source_laws.proofs.InnerSources.{law_inner}
use Rattle.uc_source_laws.proofs.laws.law_inner.Goals as goal

pub returns : goal.returns
returns c = law_inner
