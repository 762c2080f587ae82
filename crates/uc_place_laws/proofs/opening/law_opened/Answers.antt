use Rattle.uc_place_laws.proofs.Openings.{law_opened}
use Rattle.uc_place_laws.proofs.opening.law_opened.Goals as goal

pub returns : goal.returns
returns c = law_opened
