use Rattle.uc_inherit.proofs.Heads.{noted, found}
use Rattle.uc_inherit.proofs.laws.law_heads.Goals as goal

pub returns-clause-noted : goal.returns-clause-noted
returns-clause-noted c = noted

pub returns-clause-found : goal.returns-clause-found
returns-clause-found c = found
