use Rattle.uc_place_laws.proofs.BindingWalk.{law_bound}
use Rattle.uc_place_laws.proofs.binding.law_bound.Goals as goal

pub returns : goal.returns
returns c = law_bound
