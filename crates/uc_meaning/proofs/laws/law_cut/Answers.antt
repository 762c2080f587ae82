use Rattle.uc_meaning.proofs.CutsLemmas.{law_cut}
use Rattle.uc_meaning.proofs.laws.law_cut.Goals as goal

pub returns : goal.returns
returns c = law_cut
