use Rattle.uc_place_laws.proofs.Addresses.{law_addresses}
use Rattle.uc_place_laws.proofs.binding.law_addresses.Goals as goal

pub returns : goal.returns
returns c = law_addresses
