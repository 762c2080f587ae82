-- Whom an accept takes, as a judge has it.
use Rattle.uc_tree.specs.SiteOffers.{Met}
use Rattle.uc_judge.specs.declared.offers.Taken.{Taken}

abbrev pub as_met : Taken → Met
as_met x = record { clause = x.clause; member = x.member; task = x.task }
