use Rattle.std.proofs.Common.{◌≡◌, ◌++◌, take}
use Rattle.uc_journal.specs.declared.form.Form.TheVariants.{New}
use Rattle.uc_journal.proofs.Journals.{lines_in}
use Rattle.uc_journal.proofs.write.append_journal.Given as goal

-- the entries so far are written
abbrev pub invariant-loop-e : goal.invariant-loop-e
invariant-loop-e l = l.text.items ≡ l.initial.text.items ++ lines_in New (take l.e-index l.j)
