use Rattle.uc_lasting_programs.proofs.Forgetting.{law_forgets_programs}
use Rattle.uc_lasting_programs.proofs.laws.law_forgets_programs.Goals as goal

pub returns : goal.returns
returns c = law_forgets_programs
