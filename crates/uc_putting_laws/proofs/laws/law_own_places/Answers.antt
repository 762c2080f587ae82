use Rattle.uc_putting_laws.proofs.OwnPlaces.{law_own_places}
use Rattle.uc_putting_laws.proofs.laws.law_own_places.Goals as goal

pub returns : goal.returns
returns c = law_own_places
