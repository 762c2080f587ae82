use Rattle.uc_lasting_programs.proofs.Asking.{law_asked_at}
use Rattle.uc_lasting_programs.proofs.laws.law_asked_at.Goals as goal

pub returns : goal.returns
returns c = law_asked_at
