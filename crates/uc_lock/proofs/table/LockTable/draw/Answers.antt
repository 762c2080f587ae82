use Rattle.std.proofs.Common.{rules}
use Rattle.uc_lock.proofs.Moves.{draws}
use Rattle.uc_lock.proofs.table.LockTable.draw.Goals as goal

pub fetch_add-requires : goal.fetch_add-requires
fetch_add-requires g c = (c.requires.seat, search rules, draws g.V.Journaled.key_of g.V.Journaled.journal_of _ _ _ _ c.requires.idle.0 c.requires.idle.1)
