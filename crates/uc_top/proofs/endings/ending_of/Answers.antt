use Rattle.uc_top.proofs.Leave.{ends_with}
use Rattle.uc_top.proofs.endings.ending_of.Goals as goal

pub returns : goal.returns
returns c = ends_with c.args.journal.now _ c.told_by.result c.requires c.told_by.ensures
