use Rattle.uc_typed_runs.proofs.Readings.{law_typed_texts}
use Rattle.uc_typed_runs.proofs.laws.law_typed_texts.Goals as goal

pub returns : goal.returns
returns c = law_typed_texts
