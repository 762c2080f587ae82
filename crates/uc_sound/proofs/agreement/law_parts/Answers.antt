use Rattle.uc_sound.proofs.Asking.{law_parts}
use Rattle.uc_sound.proofs.agreement.law_parts.Goals as goal

pub returns : goal.returns
returns c = law_parts
