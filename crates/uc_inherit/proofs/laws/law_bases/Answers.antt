use Rattle.uc_inherit.proofs.Heads.{taken_from, taken}
use Rattle.uc_inherit.proofs.laws.law_bases.Goals as goal

pub returns : goal.returns
returns c = λ ts i. (taken_from ts i, taken ts i)
