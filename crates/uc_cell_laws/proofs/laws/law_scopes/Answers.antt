use Rattle.uc_cell_laws.proofs.Scopes.{law_scopes}
use Rattle.uc_cell_laws.proofs.laws.law_scopes.Goals as goal

pub returns : goal.returns
returns c = law_scopes
