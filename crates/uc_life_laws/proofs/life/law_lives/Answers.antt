use Rattle.uc_life_laws.proofs.LivesLemmas.{law_lives}
use Rattle.uc_life_laws.proofs.life.law_lives.Goals as goal

pub returns : goal.returns
returns c = law_lives
