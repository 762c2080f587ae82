use Rattle.std.proofs.Common.{◌∙◌}
use Rattle.uc_journal.proofs.Entries.{line_written}
use Rattle.uc_journal.proofs.write.write_entry.Goals as goal

pub returns-clause-text : goal.returns-clause-text
returns-clause-text c = line_written c.args.e.now _ _ _ c.numbers_of.result (c.put-at.ensures.text ∙ c.word_of.ensures) c.put_numbers-at.ensures.text c.put.ensures.text c.numbers_of.ensures
