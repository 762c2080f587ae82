use Rattle.uc_life_laws.proofs.OwnNamesLemmas.{law_own_names}
use Rattle.uc_life_laws.proofs.own_names.law_own_names.Goals as goal

pub returns : goal.returns
returns c = law_own_names
