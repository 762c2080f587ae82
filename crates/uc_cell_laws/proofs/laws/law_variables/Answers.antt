use Rattle.uc_cell_laws.proofs.Variables.{law_variables}
use Rattle.uc_cell_laws.proofs.laws.law_variables.Goals as goal

pub returns : goal.returns
returns c = law_variables
