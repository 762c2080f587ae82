use Rattle.uc_parts_laws.proofs.PartSources.{law_parts_sources}
use Rattle.uc_parts_laws.proofs.laws.law_parts_sources.Goals as goal

pub returns : goal.returns
returns c = law_parts_sources
