use Rattle.uc_life_laws.proofs.Following.{law_following}
use Rattle.uc_life_laws.proofs.life.law_following.Goals as goal

pub returns : goal.returns
returns c = law_following
