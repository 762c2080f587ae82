use Rattle.uc_parts_laws.proofs.TakenRuns.{law_undoing}
use Rattle.uc_parts_laws.proofs.laws.law_undoing.Goals as goal

pub returns : goal.returns
returns c = law_undoing
