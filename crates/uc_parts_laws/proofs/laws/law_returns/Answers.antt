use Rattle.uc_parts_laws.proofs.ReturnWalk.{law_returns}
use Rattle.uc_parts_laws.proofs.laws.law_returns.Goals as goal

pub returns : goal.returns
returns c = law_returns
