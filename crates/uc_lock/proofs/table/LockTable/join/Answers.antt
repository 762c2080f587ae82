use Rattle.std.proofs.Common.{rules}
use Rattle.uc_lock.proofs.Seats.{joins}
use Rattle.uc_lock.proofs.table.LockTable.join.Goals as goal

pub join_seat-requires : goal.join_seat-requires
join_seat-requires g c = (c.requires.seat.0, c.requires.seat.1, c.requires.seat.2, search rules, joins g.V.Journaled.key_of g.V.Journaled.journal_of _ _ _ _ _ c.requires.idle.0 c.requires.idle.1 c.requires.idle.2 c.requires.idle.3)
