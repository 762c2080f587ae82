use Rattle.std.proofs.Common.{rules}
use Rattle.uc_lock.proofs.Seats.{splits}
use Rattle.uc_lock.proofs.table.LockTable.split.Goals as goal

pub split_seat-requires : goal.split_seat-requires
split_seat-requires g c = (c.requires.seat, search rules, splits g.V.Journaled.key_of g.V.Journaled.journal_of _ _ _ c.requires.idle.0 c.requires.idle.1 c.requires.room.0 c.requires.room.1 c.requires.room.2)
