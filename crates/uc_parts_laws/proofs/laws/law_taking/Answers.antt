use Rattle.uc_parts_laws.proofs.TakenRuns.{law_taking}
use Rattle.uc_parts_laws.proofs.laws.law_taking.Goals as goal

pub returns : goal.returns
returns c = law_taking
