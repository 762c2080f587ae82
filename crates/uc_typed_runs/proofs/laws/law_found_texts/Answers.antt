use Rattle.uc_typed_runs.proofs.FoundTexts.{law_found_texts}
use Rattle.uc_typed_runs.proofs.laws.law_found_texts.Goals as goal

pub returns : goal.returns
returns c = law_found_texts
