use Rattle.uc_sound.proofs.Routines.{law_entered}
use Rattle.uc_sound.proofs.enter.law_entered.Goals as goal

pub returns : goal.returns
returns c = law_entered
