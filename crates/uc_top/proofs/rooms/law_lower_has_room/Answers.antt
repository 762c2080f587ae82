use Rattle.uc_top.proofs.RoomLemmas.{lower_has_room}
use Rattle.uc_top.proofs.rooms.law_lower_has_room.Goals as goal

pub returns : goal.returns
returns c = lower_has_room
