use Rattle.uc_parts_laws.proofs.PartsRuns.{law_kept_parts}
use Rattle.uc_parts_laws.proofs.laws.law_kept_parts.Goals as goal

pub returns : goal.returns
returns c = law_kept_parts
