use Rattle.uc_letting_laws.proofs.LettingWorlds.{law_owners}
use Rattle.uc_letting_laws.proofs.laws.law_owners.Goals as goal

pub returns : goal.returns
returns c = law_owners
