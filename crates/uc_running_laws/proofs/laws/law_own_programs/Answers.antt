use Rattle.uc_running_laws.proofs.OwnPrograms.{law_own_programs}
use Rattle.uc_running_laws.proofs.laws.law_own_programs.Goals as goal

pub returns : goal.returns
returns c = law_own_programs
