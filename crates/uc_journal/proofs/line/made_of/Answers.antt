use Rattle.uc_journal.proofs.Entries.{front_at, word_fits, made_again}
use Rattle.uc_journal.proofs.line.made_of.Goals as goal

pub overflow_cast-result-2 : goal.overflow_cast-result-2
overflow_cast-result-2 c = word_fits _ (front_at c.args.kind c.args.values.now c.told-values c.requires).task

pub overflow_cast-result-3 : goal.overflow_cast-result-3
overflow_cast-result-3 c = word_fits _ (front_at c.args.kind c.args.values.now c.told-values c.requires).ticks

pub overflow_cast-result-4 : goal.overflow_cast-result-4
overflow_cast-result-4 c = word_fits _ (front_at c.args.kind c.args.values.now c.told-values c.requires).object

pub returns-clause-fields : goal.returns-clause-fields
returns-clause-fields c = made_again c.args.kind c.args.values.now c.told-values c.requires

pub overflow_cast-result-5 : goal.overflow_cast-result-5
overflow_cast-result-5 c = word_fits _ (front_at c.args.kind c.args.values.now c.told-values c.requires).line
