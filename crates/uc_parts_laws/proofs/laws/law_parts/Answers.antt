use Rattle.uc_parts_laws.proofs.PartWalk.{law_parts}
use Rattle.uc_parts_laws.proofs.laws.law_parts.Goals as goal

pub returns : goal.returns
returns c = law_parts
