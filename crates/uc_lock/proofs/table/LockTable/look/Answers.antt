use Rattle.std.proofs.Common.{rules}
use Rattle.uc_lock.proofs.Moves.{looks}
use Rattle.uc_lock.proofs.table.LockTable.look.Goals as goal

pub load-requires : goal.load-requires
load-requires g c = (c.requires.seat, search rules, looks g.V.Journaled.key_of g.V.Journaled.journal_of _ _ _ _ c.requires.waits.0 c.requires.waits.2 c.requires.unspent)
