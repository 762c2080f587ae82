use Rattle.uc_sound.proofs.DeclarationsLemmas.{law_declared}
use Rattle.uc_sound.proofs.agreement.law_declared.Goals as goal

pub returns : goal.returns
returns c = law_declared
