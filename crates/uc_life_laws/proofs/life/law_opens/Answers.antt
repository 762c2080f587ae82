use Rattle.uc_life_laws.proofs.Opened.{law_opens}
use Rattle.uc_life_laws.proofs.life.law_opens.Goals as goal

pub returns : goal.returns
returns c = law_opens
