use Rattle.uc_life_laws.proofs.Claims.{law_claims}
use Rattle.uc_life_laws.proofs.cover.law_claims.Goals as goal

pub returns : goal.returns
returns c = law_claims
