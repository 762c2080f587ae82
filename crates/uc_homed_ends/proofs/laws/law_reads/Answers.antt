use Rattle.uc_homed_ends.proofs.EndHomes.{law_reads}
use Rattle.uc_homed_ends.proofs.laws.law_reads.Goals as goal

pub returns : goal.returns
returns c = law_reads
