use Rattle.uc_meaning.proofs.CutsLemmas.{law_programs}
use Rattle.uc_meaning.proofs.laws.law_programs.Goals as goal

pub returns : goal.returns
returns c = law_programs
