use Rattle.uc_parts_laws.proofs.StandingPrograms.{law_standing_programs}
use Rattle.uc_parts_laws.proofs.laws.law_standing_programs.Goals as goal

pub returns : goal.returns
returns c = law_standing_programs
