use Rattle.uc_place_laws.proofs.SparingRuns.{law_sparing}
use Rattle.uc_place_laws.proofs.aside.law_sparing.Goals as goal

pub returns : goal.returns
returns c = law_sparing
