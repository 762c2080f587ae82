use Rattle.uc_making_laws.proofs.Nobodys.{law_nobodys}
use Rattle.uc_making_laws.proofs.laws.law_nobodys.Goals as goal

pub returns : goal.returns
returns c = law_nobodys
