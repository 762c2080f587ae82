use Rattle.uc_lasting_programs.proofs.Telling.{law_telling}
use Rattle.uc_lasting_programs.proofs.laws.law_telling.Goals as goal

pub returns : goal.returns
returns c = law_telling
