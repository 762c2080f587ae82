use Rattle.uc_place_laws.proofs.Reaching.{law_reaches}
use Rattle.uc_place_laws.proofs.aside.law_reaches.Goals as goal

pub returns : goal.returns
returns c = law_reaches
