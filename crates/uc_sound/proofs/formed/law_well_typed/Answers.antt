use Rattle.uc_sound.proofs.Texts.{law_well_typed}
use Rattle.uc_sound.proofs.formed.law_well_typed.Goals as goal

pub returns : goal.returns
returns c = law_well_typed
