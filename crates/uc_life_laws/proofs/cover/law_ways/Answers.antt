use Rattle.uc_life_laws.proofs.Ways.{law_ways}
use Rattle.uc_life_laws.proofs.cover.law_ways.Goals as goal

pub returns : goal.returns
returns c = law_ways
