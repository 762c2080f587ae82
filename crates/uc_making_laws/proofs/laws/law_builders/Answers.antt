use Rattle.uc_making_laws.proofs.BuilderWalk.{law_builders}
use Rattle.uc_making_laws.proofs.laws.law_builders.Goals as goal

pub returns : goal.returns
returns c = law_builders
