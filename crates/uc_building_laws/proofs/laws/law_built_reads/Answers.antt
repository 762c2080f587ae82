use Rattle.uc_building_laws.proofs.BuiltReads.{law_built_reads}
use Rattle.uc_building_laws.proofs.laws.law_built_reads.Goals as goal

pub returns : goal.returns
returns c = law_built_reads
