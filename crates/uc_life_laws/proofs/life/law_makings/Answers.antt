use Rattle.uc_life_laws.proofs.MakingsLemmas.{law_makings}
use Rattle.uc_life_laws.proofs.life.law_makings.Goals as goal

pub returns : goal.returns
returns c = law_makings
