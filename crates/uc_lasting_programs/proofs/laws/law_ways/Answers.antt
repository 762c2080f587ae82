use Rattle.uc_lasting_programs.proofs.Ways.{law_ways}
use Rattle.uc_lasting_programs.proofs.laws.law_ways.Goals as goal

pub returns : goal.returns
returns c = law_ways
