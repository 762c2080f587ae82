use Rattle.uc_building_laws.proofs.ScopedReads.{law_scoped_reads}
use Rattle.uc_building_laws.proofs.laws.law_scoped_reads.Goals as goal

pub returns : goal.returns
returns c = law_scoped_reads
