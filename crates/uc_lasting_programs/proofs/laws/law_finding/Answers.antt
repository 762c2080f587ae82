use Rattle.uc_lasting_programs.proofs.Finding.{law_finding}
use Rattle.uc_lasting_programs.proofs.laws.law_finding.Goals as goal

pub returns : goal.returns
returns c = law_finding
