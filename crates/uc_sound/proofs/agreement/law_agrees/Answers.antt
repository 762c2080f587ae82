use Rattle.uc_sound.proofs.Ties.{law_agrees}
use Rattle.uc_sound.proofs.agreement.law_agrees.Goals as goal

pub returns : goal.returns
returns c = law_agrees
