use Rattle.uc_letting_laws.proofs.LettingWorlds.{law_leaving}
use Rattle.uc_letting_laws.proofs.laws.law_leaving.Goals as goal

pub returns : goal.returns
returns c = law_leaving
