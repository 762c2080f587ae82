use Rattle.uc_source_laws.proofs.InitialisingLemmas.{law_initialises}
use Rattle.uc_source_laws.proofs.laws.law_initialises.Goals as goal

pub returns : goal.returns
returns c = law_initialises
