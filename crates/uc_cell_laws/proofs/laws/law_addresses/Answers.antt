use Rattle.uc_cell_laws.proofs.Variables.{law_addresses}
use Rattle.uc_cell_laws.proofs.laws.law_addresses.Goals as goal

pub returns : goal.returns
returns c = law_addresses
