-- Of any source: a task begins with what is bound aside, and each step and each answer keep that.
use Rattle.uc_state_laws.specs.Layout.{Sized}
use Rattle.uc_place_laws.specs.AsideLaws.{LawSteps}
use Rattle.uc_place_laws.proofs.AsideWalk.{walk, first_aside, answered_aside}
use Rattle.uc_place_laws.proofs.AsideWorlds.{code}

pub law_steps : LawSteps
law_steps = record {
  begins = λ p makes source known sited r o. first_aside (Sized p) makes source (code makes source known sited) r o;
  steps = λ p makes source known sited s h st. walk (Sized p) makes source (code makes source known sited) s h st;
  told = λ p makes source form given s k f c e. answered_aside (Sized p) makes source form given s k f c e;
}
