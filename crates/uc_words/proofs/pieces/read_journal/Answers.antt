use Rattle.std.proofs.Common.{map, string_bytes}
use Rattle.uc_words.specs.Rest.{parts_of}
use Rattle.uc_words.proofs.Faults.{leads_journal, journal_twice}
use Rattle.uc_words.proofs.pieces.read_journal.Goals as goal

pub returns-then-told-clause-fault : goal.returns-then-told-clause-fault
returns-then-told-clause-fault c = journal_twice (parts_of c.args.told) (map string_bytes c.args.behind.now) _ c.if-told.true c.fault_at.ensures

pub returns-clause-leads : goal.returns-clause-leads
returns-clause-leads c = leads_journal (parts_of c.args.told) (map string_bytes c.args.behind.now) c.if-told.false
