use Rattle.uc_journal.proofs.Numbers.{ReadSo}
use Rattle.uc_journal.proofs.fields.read_fields.Given as goal

-- the numbers so far are those of the text, and so are those that are left
abbrev pub invariant-loop-i : goal.invariant-loop-i
invariant-loop-i l = ReadSo l.text l.rest l.values l.count l.i
