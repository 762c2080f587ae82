use Rattle.uc_parts_laws.proofs.LoneSweeps.{law_lone_sweeps}
use Rattle.uc_parts_laws.proofs.laws.law_lone_sweeps.Goals as goal

pub returns : goal.returns
returns c = law_lone_sweeps
