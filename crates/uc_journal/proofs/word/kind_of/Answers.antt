use Rattle.uc_journal.proofs.Words.{found_is}
use Rattle.uc_journal.proofs.word.kind_of.Goals as goal

pub returns-clause-kind : goal.returns-clause-kind
returns-clause-kind c = found_is c.args.word.now c.first_of.result c.first_of.ensures
