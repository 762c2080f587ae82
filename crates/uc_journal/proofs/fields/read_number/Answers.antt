use Rattle.std.proofs.lemmas.List.{nil_from_length}
use Rattle.uc_journal.proofs.Numbers.{no_number}
use Rattle.uc_journal.proofs.fields.read_number.Goals as goal

pub returns-in_default-clause-none : goal.returns-in_default-clause-none
returns-in_default-clause-none c n rest a =
    no_number n rest (rw (nil_from_length c.args.text.now c.in_default.ensures.cases) at a)
