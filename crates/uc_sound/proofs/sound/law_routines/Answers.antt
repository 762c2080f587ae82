use Rattle.uc_sound.proofs.RoutineBodies.{law_routines}
use Rattle.uc_sound.proofs.sound.law_routines.Goals as goal

pub returns : goal.returns
returns c = law_routines
