use Rattle.uc_life_laws.proofs.Acting.{law_kinds}
use Rattle.uc_life_laws.proofs.life.law_kinds.Goals as goal

pub returns : goal.returns
returns c = law_kinds
