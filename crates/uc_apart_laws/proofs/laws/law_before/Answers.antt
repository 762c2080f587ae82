use Rattle.uc_apart_laws.proofs.Before.{law_before}
use Rattle.uc_apart_laws.proofs.laws.law_before.Goals as goal

pub returns : goal.returns
returns c = law_before
