use Rattle.uc_state_laws.proofs.Through.{law_seat}
use Rattle.uc_state_laws.proofs.program.law_seat.Goals as goal

pub returns : goal.returns
returns c = law_seat
