use Rattle.uc_life_laws.proofs.Owes.{law_owes}
use Rattle.uc_life_laws.proofs.owing.law_owes.Goals as goal

pub returns : goal.returns
returns c = law_owes
