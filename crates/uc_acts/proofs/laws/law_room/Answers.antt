use Rattle.uc_acts.proofs.Bounds.{law_room}
use Rattle.uc_acts.proofs.laws.law_room.Goals as goal

pub returns : goal.returns
returns c = law_room
