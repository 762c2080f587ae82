use Rattle.uc_place_laws.proofs.Seating.{law_seats}
use Rattle.uc_place_laws.proofs.aside.law_seats.Goals as goal

pub returns : goal.returns
returns c = law_seats
