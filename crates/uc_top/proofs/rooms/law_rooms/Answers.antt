use Rattle.uc_top.proofs.RoomBounds.{law_rooms}
use Rattle.uc_top.proofs.rooms.law_rooms.Goals as goal

pub returns : goal.returns
returns c = law_rooms
