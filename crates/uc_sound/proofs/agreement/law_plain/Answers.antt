use Rattle.uc_sound.proofs.PlainLemmas.{law_plain}
use Rattle.uc_sound.proofs.agreement.law_plain.Goals as goal

pub returns : goal.returns
returns c = law_plain
