use Rattle.uc_code.proofs.Putting.{puts_done}
use Rattle.uc_code.proofs.cleaning.put_done.Goals as goal

pub returns : goal.returns
returns c = puts_done c.args.line c.args.what _ _ _ c.in_ok-put_call.ensures c.in_ok-put.ensures
