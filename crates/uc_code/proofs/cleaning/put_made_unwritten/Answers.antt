use Rattle.uc_code.proofs.Putting.{puts_made_unwritten}
use Rattle.uc_code.proofs.cleaning.put_made_unwritten.Goals as goal

pub returns : goal.returns
returns c = puts_made_unwritten c.args.line c.args.class c.args.routine _ _ _ _ c.requires.behind c.in_ok-put.ensures c.in_ok-put-2.ensures c.in_ok-put_at_risk.ensures
