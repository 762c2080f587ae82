use Rattle.uc_making_laws.proofs.NoOthers.{law_no_others}
use Rattle.uc_making_laws.proofs.laws.law_no_others.Goals as goal

pub returns : goal.returns
returns c = law_no_others
