use Rattle.uc_answer_laws.proofs.Asking.{law_asking}
use Rattle.uc_answer_laws.proofs.laws.law_asking.Goals as goal

pub returns : goal.returns
returns c = law_asking
