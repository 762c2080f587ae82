use Rattle.uc_place_laws.proofs.SeatingRuns.{law_seating}
use Rattle.uc_place_laws.proofs.aside.law_seating.Goals as goal

pub returns : goal.returns
returns c = law_seating
