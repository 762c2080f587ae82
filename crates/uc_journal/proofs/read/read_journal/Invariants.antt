use Rattle.std.proofs.Common.{length}
use Rattle.uc_journal.proofs.Journals.{ReadUpTo}
use Rattle.uc_journal.proofs.read.read_journal.Given as goal

-- the entries so far were read from the front of the text
abbrev pub invariant-loop-body : goal.invariant-loop-body
invariant-loop-body l = ReadUpTo l.body.form l.text l.rest l.entries.items

abbrev pub decreases-loop-body : goal.decreases-loop-body
decreases-loop-body l = length l.rest
