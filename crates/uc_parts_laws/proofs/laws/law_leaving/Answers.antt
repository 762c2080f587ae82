use Rattle.uc_parts_laws.proofs.Leaving.{law_leaving}
use Rattle.uc_parts_laws.proofs.laws.law_leaving.Goals as goal

pub returns : goal.returns
returns c = law_leaving
