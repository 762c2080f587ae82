use Rattle.uc_life_laws.proofs.HeldLaws.{law_held}
use Rattle.uc_life_laws.proofs.cover.law_held.Goals as goal

pub returns : goal.returns
returns c = law_held
