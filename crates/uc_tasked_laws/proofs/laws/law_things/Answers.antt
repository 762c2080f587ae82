use Rattle.uc_tasked_laws.proofs.SeatThings.{law_things}
use Rattle.uc_tasked_laws.proofs.laws.law_things.Goals as goal

pub returns : goal.returns
returns c = law_things
