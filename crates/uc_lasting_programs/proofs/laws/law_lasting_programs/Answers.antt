use Rattle.uc_lasting_programs.proofs.LastingPrograms.{law_lasting_programs}
use Rattle.uc_lasting_programs.proofs.laws.law_lasting_programs.Goals as goal

pub returns : goal.returns
returns c = law_lasting_programs
