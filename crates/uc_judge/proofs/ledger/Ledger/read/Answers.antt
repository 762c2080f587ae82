use Rattle.std.proofs.Common.{rules}
use Rattle.uc_acts.specs.Reading.{bytes_used}
use Rattle.uc_judge.proofs.Signals.{is_read}
use Rattle.uc_judge.proofs.ledger.Ledger.read.Goals as goal

pub read-requires : goal.read-requires
read-requires c =
    let h = c.requires.ledger.counts c.requires.few in
    is_read _ c.args.self.now.counts.bytes_read (bytes_used c.args.self.now.entries.items) _ (search rules) h.bytes_read (c.next_read-got.ensures.within (bytes_used c.args.self.now.entries.items) h.bytes_read)
